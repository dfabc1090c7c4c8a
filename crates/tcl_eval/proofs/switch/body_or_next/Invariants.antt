use Rattle.std.proofs.Common.{◌≡◌, length}
use Rattle.tcl_eval.specs.Switch.{body_or_next}
use Rattle.tcl_eval.proofs.switch.body_or_next.Given as goal

abbrev pub invariant-pairs : goal.invariant-pairs
invariant-pairs l = body_or_next l.chosen l.left ≡ body_or_next l.fn.body l.fn.pairs

abbrev pub decreases-pairs : goal.decreases-pairs
decreases-pairs l = length l.left
