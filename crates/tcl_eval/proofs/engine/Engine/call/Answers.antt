use Rattle.natives.specs.Names.{names_of}
use Rattle.tcl_eval.specs.Eval.{nested}
use Rattle.tcl_eval.proofs.Calls.{paid_call}
use Rattle.tcl_eval.proofs.engine.Engine.call.Goals as goal

pub returns-clause-means : goal.returns-clause-means
returns-clause-means g c = λ gv.
    let ns = names_of c.args.natives.now in
    let t = g.H.Host.table in
    let paid = c.if-not-pay.ensures in
    paid_call ns t c.args.self.now c.pay.new.self (nested ns t c.args.levels) c.args.words.now c.args.called c.command_cost.result gv _ c.command_cost.ensures paid.0 paid.1 c.requires (c.in_ok-step.ensures.means gv)
