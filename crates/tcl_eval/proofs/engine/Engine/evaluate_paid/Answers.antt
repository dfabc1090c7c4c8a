use Rattle.tcl_eval.specs.Engine.{state_of}
use Rattle.tcl_eval.proofs.Evaluations.{value_begins}
use Rattle.tcl_eval.proofs.engine.Engine.evaluate_paid.Goals as goal

pub returns-clause-means : goal.returns-clause-means
returns-clause-means g c = λ ns gv.
    let e = c.args.self.now in
    value_begins ns g.H.Host.table e.stack.items c.push.new.self.items c.args.expr c.args.levels c.done.result (state_of e) e.budget gv _ c.in_ok-push.ensures.items c.done.ensures (c.in_ok-step.ensures.means ns gv)
