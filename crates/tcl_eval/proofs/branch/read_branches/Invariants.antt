use Rattle.std.proofs.Common.{◌≡◌, length}
use Rattle.tcl_eval.specs.Branches.{from_condition}
use Rattle.tcl_eval.specs.BranchesSeen.{clauses_before}
use Rattle.tcl_eval.proofs.branch.read_branches.Given as goal

abbrev pub invariant-clauses : goal.invariant-clauses
invariant-clauses l = from_condition l.fn.words ≡ clauses_before l.clauses (from_condition l.left)

abbrev pub decreases-clauses : goal.decreases-clauses
decreases-clauses l = length l.left
