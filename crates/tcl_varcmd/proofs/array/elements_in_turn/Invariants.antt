use Rattle.std.proofs.Common.{◌≡◌, ◌++◌, drop}
use Rattle.std.specs.Option.{option_copied}
use Rattle.tcl_varcmd.specs.Arrays.{picked, in_turn}
use Rattle.tcl_varcmd.proofs.array.elements_in_turn.Given as goal

-- what is listed, and what is left to list
abbrev pub invariant-pairs : goal.invariant-pairs
invariant-pairs l = l.words ++ in_turn (picked (option_copied l.pattern) (drop l.pair-index l.pair-items)) ≡ in_turn (picked (option_copied l.pattern) l.pairs)
