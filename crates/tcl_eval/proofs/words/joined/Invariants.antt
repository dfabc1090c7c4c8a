use Rattle.std.proofs.Common.{◌≡◌, ◌++◌, length}
use Rattle.tcl_eval.specs.Eval.{joined}
use Rattle.tcl_eval.proofs.words.joined.Given as goal

abbrev pub invariant-words : goal.invariant-words
invariant-words l = joined l.fn.words ≡ l.text ++ joined l.left

abbrev pub decreases-words : goal.decreases-words
decreases-words l = length l.left
