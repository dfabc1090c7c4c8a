use Rattle.natives.specs.Names.{names_of}
use Rattle.tcl_eval.specs.Eval.{nested}
use Rattle.tcl_eval.specs.Stack.{stack_next}
use Rattle.tcl_eval.specs.Engine.{state_of}
use Rattle.tcl_eval.proofs.Acts.{unknown_step, built_step}
use Rattle.tcl_eval.proofs.engine.Engine.act.Goals as goal

pub returns-in_ok-error-in-None-clause-means : goal.returns-in_ok-error-in-None-clause-means
returns-in_ok-error-in-None-clause-means g c = λ gv.
    let ns = names_of c.args.natives.now in
    let t = g.H.Host.table in
    let e = c.args.self.now in
    unknown_step ns t (nested ns t c.args.levels) c.args.words c.first_word-name.result.now c.bytes.result.now c.in_ok-message-in-None.message c.in_ok-error-in-None.field-0 (stack_next ns t e.stack.items) (state_of e) e.budget gv c.in-None.ensures c.first_word-name.ensures c.bytes.ensures c.in_ok-message-in-None.ensures c.in_ok-error-in-None.ensures

pub returns-in_ok-acted-in-Some-Built-clause-means : goal.returns-in_ok-acted-in-Some-Built-clause-means
returns-in_ok-acted-in-Some-Built-clause-means g c = λ gv.
    let ns = names_of c.args.natives.now in
    let t = g.H.Host.table in
    let e = c.args.self.now in
    built_step ns t (nested ns t c.args.levels) c.args.words c.in_ok-words-in-Some-Built.words c.first_word-name.result.now c.in-Some-Built.own (stack_next ns t e.stack.items) (state_of e) e.budget gv _ (rw c.in-Some-Built.field-0-is at c.in-Some-Built.ensures) c.first_word-name.ensures (rw c.in-Some-Built.field-0-is at c.in_ok-words-in-Some-Built.ensures) (c.in_ok-acted-in-Some-Built.ensures.means gv)
