use Rattle.std.proofs.Common.{ap}
use Rattle.tcl_expr.specs.View.{tree_of}
use Rattle.tcl_expr.specs.declared.expr.Expr.{Expr}
use Rattle.tcl_eval.specs.Eval.{nested}
use Rattle.tcl_eval.specs.Expressions.{run_expression}
use Rattle.tcl_eval.specs.Engine.{state_of}
use Rattle.tcl_eval.proofs.AtOnce.{expression_gives}
use Rattle.tcl_eval.proofs.engine.Engine.begun_part.Goals as goal

pub returns-in_ok-part-in-None : goal.returns-in_ok-part-in-None
returns-in_ok-part-in-None g c = λ ns levels k b gv.
    ap (λ (x : Expr). run_expression (nested ns g.H.Host.table levels) (tree_of x) k (state_of c.args.self.now) b gv) c.in_ok-part-in-None.ensures.cases

pub returns-in-Some : goal.returns-in-Some
returns-in-Some g c = λ ns levels k b gv.
    let found = rw (c.in-Some.is, c.deref.ensures) at c.in_ok-simple_value.ensures in
    expression_gives ns g.H.Host.table levels (state_of c.args.self.now) b gv (tree_of c.args.part.now.value) k c.in-Some.value found
