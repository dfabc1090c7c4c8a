use Rattle.std.proofs.Common.{◌+◌, ◌*◌, ◌<◌, ◌≤◌, length}
use Rattle.tcl_expr.specs.Outcome.{Outcome, done}
use Rattle.tcl_expr.specs.Tokens.{loosest}
use Rattle.tcl_expr.specs.Grammar.{InParens, SignedAt, LevelAt, ExpressionBy}
use Rattle.tcl_expr.specs.View.{tree_of}
use Rattle.tcl_expr.specs.Stack.{stack, IsStack, FromOperand, parts, Waits, signs_before}
use Rattle.tcl_expr.proofs.reading.+reader.Given as goal

abbrev pub decreases-in_parentheses : goal.decreases-in_parentheses
decreases-in_parentheses l = 8 * l.room

abbrev pub decreases-bare : goal.decreases-bare
decreases-bare l = 8 * l.room + 1

abbrev pub decreases-operand : goal.decreases-operand
decreases-operand l = 8 * l.room + 2

abbrev pub decreases-signed : goal.decreases-signed
decreases-signed l = 8 * l.room + 3

abbrev pub decreases-joined : goal.decreases-joined
decreases-joined l = 8 * l.room + 4

abbrev pub decreases-choice : goal.decreases-choice
decreases-choice l = 8 * l.room + 5

abbrev pub invariant-signed-signs : goal.invariant-signed-signs
invariant-signed-signs l = record {
  same : (o : Outcome) → SignedAt (InParens l.room) l.left l.rest o → SignedAt (InParens l.room) l.fn.left l.bytes (signs_before l.signs.items o);
  goes : length l.rest ≤ length l.bytes;
}

abbrev pub decreases-signed-signs : goal.decreases-signed-signs
decreases-signed-signs l = length l.rest

abbrev pub invariant-joined-operators : goal.invariant-joined-operators
invariant-joined-operators l = record {
  same : (o : Outcome) → FromOperand (SignedAt (InParens l.room)) (stack l.pending.items) (done (tree_of l.tree) l.left l.rest) o → LevelAt (SignedAt (InParens l.room)) loosest l.fn.left l.bytes o;
  valid : IsStack (stack l.pending.items);
  goes : length l.rest < length l.bytes;
}

abbrev pub decreases-joined-operators : goal.decreases-joined-operators
decreases-joined-operators l = length l.rest

abbrev pub invariant-choice-parts : goal.invariant-choice-parts
invariant-choice-parts l = record {
  same : (v o : Outcome) → ExpressionBy (InParens l.room) l.left l.rest v → Waits (ExpressionBy (InParens l.room)) (parts l.asked.items) v o → ExpressionBy (InParens l.room) l.fn.left l.bytes o;
  goes : length l.rest ≤ length l.bytes;
}

abbrev pub decreases-choice-parts : goal.decreases-choice-parts
decreases-choice-parts l = length l.rest
