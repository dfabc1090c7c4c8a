use Rattle.std.proofs.Common.{◌∙◌, ap}
use Rattle.tcl_expr.specs.Trees.{binary}
use Rattle.tcl_expr.specs.View.{tree_of}
use Rattle.tcl_expr.specs.declared.expr.Expr.{Expr}
use Rattle.tcl_eval.specs.Eval.{nested}
use Rattle.tcl_eval.specs.Expressions.{run_expression}
use Rattle.tcl_eval.specs.Stack.{frame_next, stack_next}
use Rattle.tcl_eval.specs.Engine.{state_of}
use Rattle.tcl_eval.specs.declared.stack.Frame.TheVariants.{Left}
use Rattle.tcl_eval.proofs.engine.Engine.enter_left.Goals as goal

pub returns-clause-means : goal.returns-clause-means
returns-clause-means g c = λ ns gv.
    let t = g.H.Host.table in
    let e = c.args.self.now in
    let k = stack_next ns t e.stack.items in
    let inner = nested ns t c.args.levels in
    c.in_ok-step.ensures.means ns gv
    ∙ ap (λ (x : Expr). run_expression inner (tree_of x) (frame_next ns t (Left c.args.op c.in_ok-right.right c.args.levels) k) (state_of e) e.budget gv) c.in_ok-left.ensures.cases
    ∙ ap (λ (x : Expr). run_expression inner (binary c.args.op (tree_of c.args.left.now.value) (tree_of x)) k (state_of e) e.budget gv) c.in_ok-right.ensures.cases
