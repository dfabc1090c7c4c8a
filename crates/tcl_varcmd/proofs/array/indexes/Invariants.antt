use Rattle.std.proofs.Common.{◌≡◌, ◌++◌, drop, map}
use Rattle.std.specs.Option.{option_copied}
use Rattle.tcl_varcmd.specs.Arrays.{Pair, picked}
use Rattle.tcl_varcmd.proofs.array.indexes.Given as goal

-- what is listed, and what is left to list
abbrev pub invariant-pairs : goal.invariant-pairs
invariant-pairs l = l.words ++ map (λ (pair : Pair). pair.0) (picked (option_copied l.pattern) (drop l.pair-index l.pair-items)) ≡ map (λ (pair : Pair). pair.0) (picked (option_copied l.pattern) l.pairs)
