use Rattle.tcl_expr.specs.View.{tree_of}
use Rattle.tcl_eval.proofs.Values.{compared_truth}
use Rattle.tcl_eval.proofs.simple_value.compared_leaves.Goals as goal

pub returns : goal.returns
returns c =
    compared_truth c.args.frames.now c.args.op (tree_of c.args.left.now) (tree_of c.args.right.now) c.in_ok-left.left.now c.in_ok-right.right.now c.comparison_holds.result c.in_ok-left.ensures c.in_ok-right.ensures c.comparison_holds.ensures
