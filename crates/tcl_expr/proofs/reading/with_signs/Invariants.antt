use Rattle.std.proofs.Common.{◌≡◌, length}
use Rattle.tcl_expr.specs.View.{tree_of}
use Rattle.tcl_expr.specs.Stack.{with_signs}
use Rattle.tcl_expr.proofs.reading.with_signs.Given as goal

abbrev pub invariant-signs : goal.invariant-signs
invariant-signs l = with_signs l.signs.items (tree_of l.expr) ≡ with_signs l.fn.signs.items (tree_of l.fn.expr)

abbrev pub decreases-signs : goal.decreases-signs
decreases-signs l = length l.signs.items
