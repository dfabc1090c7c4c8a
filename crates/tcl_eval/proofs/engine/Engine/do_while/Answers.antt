use Rattle.std.proofs.Common.{◌∙◌, sym}
use Rattle.tcl_eval.specs.Eval.{nested}
use Rattle.tcl_eval.specs.Stack.{stack_next}
use Rattle.tcl_eval.specs.Engine.{state_of}
use Rattle.tcl_eval.proofs.Turns.{while_step}
use Rattle.tcl_eval.proofs.engine.Engine.do_while.Goals as goal

pub returns-clause-means : goal.returns-clause-means
returns-clause-means g c = λ ns opened gv.
    let t = g.H.Host.table in
    let e = c.args.self.now in
    while_step ns t (nested ns t c.args.levels) c.args.words.now c.in_ok-condition.condition c.in_ok-body.body (stack_next ns t e.stack.items) (state_of e) e.budget gv _ (sym c.len.ensures ∙ c.if-len-ne3.false) c.in_ok-condition.ensures c.in_ok-body.ensures (c.in_ok-acted.ensures.means ns opened gv)
