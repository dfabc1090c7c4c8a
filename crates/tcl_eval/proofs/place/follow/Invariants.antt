use Rattle.std.proofs.Common.{◌≡◌, drop, map}
use Rattle.tcl_parse.specs.Tree.{parts}
use Rattle.tcl_parse.specs.View.{part_of}
use Rattle.tcl_eval.specs.Places.{walk}
use Rattle.tcl_eval.proofs.place.follow.Given as goal

abbrev pub invariant-loop-at : goal.invariant-loop-at
invariant-loop-at l = walk (drop l.at-index l.path) (parts (map part_of l.here)) ≡ walk l.path (parts (map part_of l.pieces))
