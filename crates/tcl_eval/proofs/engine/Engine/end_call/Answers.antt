use Rattle.std.proofs.Common.{◌∙◌, ap, arith}
use Rattle.tcl_eval.specs.Eval.{command_end, proc_end}
use Rattle.tcl_eval.specs.Stack.{stack_next, stack_weight}
use Rattle.tcl_eval.specs.Engine.{state_of}
use Rattle.tcl_eval.proofs.engine.Engine.end_call.Goals as goal

pub returns-clause-means : goal.returns-clause-means
returns-clause-means g c = λ ns gv.
    let t = g.H.Host.table in
    let e = c.args.self.now in
    c.in_ok-step.ensures.means ns gv
    ∙ c.in_ok-after.ensures.means (command_end (stack_next ns t c.end_body.new.self.stack.items)) gv
    ∙ ap (λ stack. proc_end (command_end (stack_next ns t stack.items)) c.args.value.code c.args.value.result (state_of e) e.budget gv) c.in_ok-after.ensures.straight.2

pub returns-clause-falls : goal.returns-clause-falls
returns-clause-falls g c =
    let same = ap (λ stack. stack_weight stack.items) c.in_ok-after.ensures.straight.2 in
    omega (arith, c.in_ok-step.ensures.falls, same)
