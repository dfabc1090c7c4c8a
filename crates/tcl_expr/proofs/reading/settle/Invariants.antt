use Rattle.std.proofs.Common.{ℕ, List, length}
use Rattle.tcl_expr.specs.Outcome.{Outcome, done}
use Rattle.tcl_expr.specs.Grammar.{ExpressionBy, InParens}
use Rattle.tcl_expr.specs.View.{tree_of}
use Rattle.tcl_expr.specs.Stack.{parts, Waits}
use Rattle.tcl_expr.proofs.reading.settle.Given as goal

abbrev pub invariant-asked : goal.invariant-asked
invariant-asked l = (room n : ℕ) (t : List ℕ) (o : Outcome) →
    Waits (ExpressionBy (InParens room)) (parts l.asked.items) (done (tree_of l.tree) n t) o → Waits (ExpressionBy (InParens room)) (parts l.fn.asked.items) (done (tree_of l.fn.tree) n t) o

abbrev pub decreases-asked : goal.decreases-asked
decreases-asked l = length l.asked.items
