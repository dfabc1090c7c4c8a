use Rattle.std.proofs.Common.{◌∙◌, arith}
use Rattle.tcl_eval.specs.State.{goes}
use Rattle.tcl_eval.specs.Eval.{nested}
use Rattle.tcl_eval.specs.Stack.{stack_next}
use Rattle.tcl_eval.specs.Engine.{state_of}
use Rattle.tcl_eval.proofs.Acts.{leaf_host, no_page, said_onward}
use Rattle.tcl_eval.proofs.engine.Engine.call_host.Goals as goal

pub returns-clause-means : goal.returns-clause-means
returns-clause-means g c = λ ns gv.
    let t = g.H.Host.table in
    let e = c.args.self.now in
    let said = t.calls c.args.words e.host in
    c.in_ok-acted.ensures.means ns (goes said) (said_onward c.call-reply.result c.call-reply.new.self said c.call-reply.ensures) gv
    ∙ leaf_host ns t (nested ns t c.args.levels) c.args.words said (stack_next ns t e.stack.items) (state_of e) c.call-reply.new.self e.budget gv

pub returns-clause-lower : goal.returns-clause-lower
returns-clause-lower g c =
    let said = g.H.Host.table.calls c.args.words c.args.self.now.host in
    let less = c.in_ok-acted.ensures.credit (no_page c.call-reply.result c.call-reply.new.self said c.call-reply.ensures) in
    (omega (arith, c.in_ok-acted.ensures.lower), omega (arith, less))
