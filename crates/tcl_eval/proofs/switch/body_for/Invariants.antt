use Rattle.std.proofs.Common.{◌≡◌, length}
use Rattle.tcl_eval.specs.Switch.{body_for}
use Rattle.tcl_eval.proofs.switch.body_for.Given as goal

abbrev pub invariant-pairs : goal.invariant-pairs
invariant-pairs l = body_for l.globs l.text l.left ≡ body_for l.fn.globs l.fn.text l.fn.pairs

abbrev pub decreases-pairs : goal.decreases-pairs
decreases-pairs l = length l.left
