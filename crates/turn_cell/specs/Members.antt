-- Which states the entries of a list left, by recursion on the list.
use Rattle.std.specs.Prelude.{◌≡◌, ◌⊎◌, ◌↔◌, List, [], ◌∷◌, ◌++◌}
use Rattle.txt_core.specs.Members.{Has}
use Rattle.turn_cell.specs.declared.view.Entry.{Entry}

-- one of the entries left this state
abbrev pub Left : {S C R : Type 0} → List (Entry S C R) → S → Type 0
Left [] s = ⊥
Left (e ∷ es) s = (e.after ≡ s) ⊎ Left es s

-- a state was left where an entry has it as its after
abbrev pub LeftIsAfter : Type 0 → Type 0 → Type 0 → Type 0
LeftIsAfter S C R = (es : List (Entry S C R)) (s : S) → Left es s ↔ ((e : Entry S C R) × Has es e × (e.after ≡ s))

-- two lists, one behind the other, left the states that either left
abbrev pub AppendLeft : Type 0 → Type 0 → Type 0 → Type 0
AppendLeft S C R = (es fs : List (Entry S C R)) (s : S) → Left (es ++ fs) s ↔ (Left es s ⊎ Left fs s)
