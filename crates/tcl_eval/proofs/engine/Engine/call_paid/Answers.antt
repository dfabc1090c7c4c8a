use Rattle.std.proofs.Common.{◌∙◌}
use Rattle.natives.specs.Names.{names_of}
use Rattle.tcl_eval.specs.Eval.{command_end, nested}
use Rattle.tcl_eval.specs.Stack.{stack_next}
use Rattle.tcl_eval.specs.Engine.{state_of}
use Rattle.tcl_eval.proofs.Calls.{refused_call, taken_call}
use Rattle.tcl_eval.proofs.engine.Engine.call_paid.Goals as goal

pub returns-in_ok-step-in-Err-clause-means : goal.returns-in_ok-step-in-Err-clause-means
returns-in_ok-step-in-Err-clause-means g c = λ gv.
    let ns = names_of c.args.natives.now in
    let t = g.H.Host.table in
    let e = c.args.self.now in
    refused_call ns t (nested ns t c.args.levels) c.args.called.now.params c.args.called.now.body c.args.words.now c.in-Err.message c.in_ok-refused-in-Err.refused (command_end (stack_next ns t e.stack.items)) (state_of e) e.budget gv _ (c.in_ok-message.ensures ∙ c.in-Err.is) c.in_ok-refused-in-Err.ensures (c.in_ok-step-in-Err.ensures.means ns gv)

pub returns-in_ok-step-in-Ok-clause-means : goal.returns-in_ok-step-in-Ok-clause-means
returns-in_ok-step-in-Ok-clause-means g c = λ gv.
    let ns = names_of c.args.natives.now in
    let t = g.H.Host.table in
    let e = c.args.self.now in
    taken_call ns t (nested ns t c.args.levels) c.args.called.now.params c.args.called.now.body c.args.words.now c.in-Ok.values (command_end (stack_next ns t e.stack.items)) (state_of e) e.budget gv _ (c.in_ok-message.ensures ∙ c.in-Ok.is) (c.in_ok-step-in-Ok.ensures.means gv)
