use Rattle.std.proofs.Common.{◌∙◌, sym}
use Rattle.tcl_expr.specs.View.{tree_of}
use Rattle.tcl_eval.specs.Eval.{nested}
use Rattle.tcl_eval.specs.Expressions.{run_expression}
use Rattle.tcl_eval.specs.Stack.{frame_next, stack_next}
use Rattle.tcl_eval.specs.Engine.{state_of}
use Rattle.tcl_eval.specs.declared.stack.Frame.TheVariants.{Right}
use Rattle.tcl_eval.proofs.AtOnce.{left_ends, left_goes}
use Rattle.tcl_eval.proofs.engine.Engine.enter_behind.Goals as goal

pub returns-in-Some-clause-means : goal.returns-in-Some-clause-means
returns-in-Some-clause-means g c = λ ns gv.
    let t = g.H.Host.table in
    let e = c.args.self.now in
    let k = stack_next ns t e.stack.items in
    let right = run_expression (nested ns t c.args.levels) (tree_of c.args.right.value) (frame_next ns t (Right c.args.op c.args.left) k) in
    left_ends (state_of e) e.budget gv c.args.way c.args.left right k c.in-Some.value (sym c.in_ok-behind_left.ensures ∙ c.in-Some.is)

pub returns-in_ok-step-in-None-clause-means : goal.returns-in_ok-step-in-None-clause-means
returns-in_ok-step-in-None-clause-means g c = λ ns gv.
    let t = g.H.Host.table in
    let e = c.args.self.now in
    let k = stack_next ns t e.stack.items in
    let right = run_expression (nested ns t c.args.levels) (tree_of c.args.right.value) (frame_next ns t (Right c.args.op c.args.left) k) in
    c.in_ok-step-in-None.ensures.means ns gv
    ∙ left_goes (state_of e) e.budget gv c.args.way c.args.left right k (sym c.in_ok-behind_left.ensures ∙ c.in-None.is)
