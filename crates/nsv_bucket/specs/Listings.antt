-- The names, and the keys with their values, that a pattern picks, in byte order.
use Rattle.std.specs.Prelude.{List, [], ◌∷◌, Option, map}
use Rattle.std.specs.List.{filter, flat_map}
use Rattle.txt_core.specs.Names.{Bytes, Words, Names, Pairs}
use Rattle.txt_core.specs.Picking.{picks}

-- the keys that are picked, in the order of the entries
abbrev pub names_in : {X : Type 0} → Option Bytes → List (Bytes × X) → Names
names_in pattern entries = map (λ e. e.0) (filter (λ e. picks pattern e.0) entries)

-- the keys that are picked, each followed by its value
abbrev pub pairs_in : Option Bytes → Pairs → Words
pairs_in pattern entries = flat_map (λ e. e.0 ∷ e.1 ∷ []) (filter (λ e. picks pattern e.0) entries)
