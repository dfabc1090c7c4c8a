-- What the registration that serves a request means, over the list of definitions.
use Rattle.std.specs.Prelude.{◌≡◌, ◌<◌, ◌≤◌, ℕ, List, ◌∷◌, ◌++◌, Some, None}
use Rattle.std.specs.List.{AllByRecursion}
use Rattle.txt_core.specs.Names.{Bytes, Words}
use Rattle.cmd_table.specs.declared.definition.Def.{Def}
use Rattle.url_tables.specs.Serving.{Match, registration, best}

-- a definition that matches has at most this rank
abbrev pub HasAtMost : Bytes → Words → ℕ → Def → Type 0
HasAtMost method path rank def = (found : Match) → registration method path def ≡ Some found → found.0 ≤ rank

-- a definition that matches has a lower rank
abbrev pub HasLess : Bytes → Words → ℕ → Def → Type 0
HasLess method path rank def = (found : Match) → registration method path def ≡ Some found → found.0 < rank

-- The match is that of a definition of the list, before which none that matches has a higher rank, and behind which none has as
-- high a one.
abbrev pub IsBest : Bytes → Words → List Def → Match → Type 0
IsBest method path defs found =
    (before : List Def) × (def : Def) × (behind : List Def) × (defs ≡ before ++ def ∷ behind) × (registration method path def ≡ Some found)
    × AllByRecursion (HasAtMost method path found.0) before × AllByRecursion (HasLess method path found.0) behind

abbrev pub BestIsBest : Type 0
BestIsBest = (method : Bytes) (path : Words) (defs : List Def) (found : Match) → best method path defs ≡ Some found → IsBest method path defs found

-- where there is none, no definition matches
abbrev pub NoneMatches : Type 0
NoneMatches = (method : Bytes) (path : Words) (defs : List Def) → best method path defs ≡ None → AllByRecursion (λ def. registration method path def ≡ None) defs
