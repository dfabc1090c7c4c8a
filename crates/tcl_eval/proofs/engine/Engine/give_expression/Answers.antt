use Rattle.std.proofs.Common.{◌∙◌, ap, sym, arith}
use Rattle.tcl_expr.specs.Trees.{unary}
use Rattle.tcl_expr.specs.View.{tree_of}
use Rattle.tcl_expr.specs.declared.expr.Expr.{Expr}
use Rattle.tcl_eval.specs.Stack.{stack_next}
use Rattle.tcl_eval.specs.Engine.{state_of}
use Rattle.tcl_eval.proofs.Expressions.{begun}
use Rattle.tcl_eval.proofs.Sizes.{has_size}
use Rattle.tcl_eval.proofs.engine.Engine.give_expression.Goals as goal

pub returns-then-value-ne-OK-clause-falls : goal.returns-then-value-ne-OK-clause-falls
returns-then-value-ne-OK-clause-falls g c = omega (arith, has_size (tree_of c.args.expr.value))

pub returns-in-Word-clause-means : goal.returns-in-Word-clause-means
returns-in-Word-clause-means g c = λ ns gv.
    let t = g.H.Host.table in
    let e = c.args.self.now in
    let is = ap (λ (x : Expr). tree_of x) (rw c.deref.ensures at c.in-Word.is) in
    begun ns t _ c.args.expr.value c.args.levels c.args.value.code c.args.value.result (stack_next ns t e.stack.items) (state_of e) e.budget gv _ c.if-value-ne-OK.false is (c.in_ok-step-in-Word.ensures.means ns gv)

pub returns-in-Unary-clause-means : goal.returns-in-Unary-clause-means
returns-in-Unary-clause-means g c = λ ns gv.
    let t = g.H.Host.table in
    let e = c.args.self.now in
    let is = ap (λ (x : Expr). tree_of x) (rw c.deref.ensures at c.in-Unary.is) ∙ ap (λ (x : Expr). unary c.in-Unary.op (tree_of x)) (sym c.in_ok-operand-in-Unary.ensures.cases) in
    begun ns t _ c.args.expr.value c.args.levels c.args.value.code c.args.value.result (stack_next ns t e.stack.items) (state_of e) e.budget gv _ c.if-value-ne-OK.false is (c.in_ok-step-in-Unary.ensures.means ns gv)

pub returns-in-Binary-clause-means : goal.returns-in-Binary-clause-means
returns-in-Binary-clause-means g c = λ ns gv.
    let t = g.H.Host.table in
    let e = c.args.self.now in
    let is = ap (λ (x : Expr). tree_of x) (rw c.deref.ensures at c.in-Binary.is) in
    begun ns t _ c.args.expr.value c.args.levels c.args.value.code c.args.value.result (stack_next ns t e.stack.items) (state_of e) e.budget gv _ c.if-value-ne-OK.false is (c.in_ok-step-in-Binary.ensures.means ns gv)

pub returns-clause-means : goal.returns-clause-means
returns-clause-means g c = λ ns gv.
    let t = g.H.Host.table in
    let e = c.args.self.now in
    let is = ap (λ (x : Expr). tree_of x) (rw c.deref.ensures at c.in-Choice.is) in
    begun ns t _ c.args.expr.value c.args.levels c.args.value.code c.args.value.result (stack_next ns t e.stack.items) (state_of e) e.budget gv _ c.if-value-ne-OK.false is (c.in_ok-step-in-Choice.ensures.means ns gv)
