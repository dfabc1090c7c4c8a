use Rattle.std.proofs.Common.{◌∙◌, ap}
use Rattle.tcl_expr.specs.View.{tree_of}
use Rattle.tcl_expr.specs.declared.expr.Expr.{Expr}
use Rattle.tcl_eval.specs.Eval.{nested}
use Rattle.tcl_eval.specs.Expressions.{run_expression}
use Rattle.tcl_eval.specs.Stack.{stack_next}
use Rattle.tcl_eval.specs.Engine.{state_of}
use Rattle.tcl_eval.proofs.AtOnce.{expression_gives}
use Rattle.tcl_eval.proofs.Expressions.{expression_step}
use Rattle.tcl_eval.proofs.engine.Engine.begin_expression.Goals as goal

pub returns-in-Some-clause-means : goal.returns-in-Some-clause-means
returns-in-Some-clause-means g c = λ ns gv.
    let t = g.H.Host.table in
    let e = c.args.self.now in
    let found = rw c.in-Some.is at c.in_ok-found.ensures in
    expression_gives ns t c.args.levels (state_of e) e.budget gv (tree_of c.args.expr.now.value) (stack_next ns t e.stack.items) c.in-Some.value (rw c.deref.ensures at found)

pub returns-in_ok-push-in-None-clause-means : goal.returns-in_ok-push-in-None-clause-means
returns-in_ok-push-in-None-clause-means g c = λ ns gv.
    let t = g.H.Host.table in
    let e = c.args.self.now in
    expression_step ns t e.stack.items c.push.new.self.items c.in_ok-expr-in-None.expr c.args.levels c.done.result (state_of e) e.budget gv c.in_ok-push-in-None.ensures.items c.done.ensures
    ∙ ap (λ (x : Expr). run_expression (nested ns t c.args.levels) (tree_of x) (stack_next ns t e.stack.items) (state_of e) e.budget gv) c.in_ok-expr-in-None.ensures.cases
