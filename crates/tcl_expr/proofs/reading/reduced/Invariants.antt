use Rattle.std.proofs.Common.{ℕ, List, length}
use Rattle.tcl_expr.specs.Outcome.{Outcome, done}
use Rattle.tcl_expr.specs.Tokens.{next_operator}
use Rattle.tcl_expr.specs.Grammar.{SignedAt, InParens}
use Rattle.tcl_expr.specs.View.{tree_of}
use Rattle.tcl_expr.specs.Stack.{stack, IsStack, AtLeast, FromOperand}
use Rattle.tcl_expr.proofs.reading.reduced.Given as goal

abbrev pub invariant-pending : goal.invariant-pending
invariant-pending l = record {
  means : IsStack (stack l.fn.pending.items) → (room n : ℕ) (t : List ℕ) (o : Outcome) → AtLeast l.fn.most (next_operator n t) →
      FromOperand (SignedAt (InParens room)) (stack l.pending.items) (done (tree_of l.tree) n t) o → FromOperand (SignedAt (InParens room)) (stack l.fn.pending.items) (done (tree_of l.fn.tree) n t) o;
  valid : IsStack (stack l.fn.pending.items) → IsStack (stack l.pending.items);
}

abbrev pub decreases-pending : goal.decreases-pending
decreases-pending l = length (stack l.pending.items)
