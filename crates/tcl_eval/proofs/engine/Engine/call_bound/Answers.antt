use Rattle.natives.specs.Names.{names_of}
use Rattle.tcl_eval.specs.Eval.{nested}
use Rattle.tcl_eval.specs.Turns.{ran_next}
use Rattle.tcl_eval.proofs.Calls.{body_call}
use Rattle.tcl_eval.proofs.engine.Engine.call_bound.Goals as goal

pub returns-clause-means : goal.returns-clause-means
returns-clause-means g c = λ gv.
    let ns = names_of c.args.natives.now in
    let t = g.H.Host.table in
    body_call ns t (nested ns t c.args.levels) c.args.self.now c.run_body.new.self c.push.new.self c.args.body.now c.args.values (ran_next ns t c.in_ok-ran.ran) gv _ c.in_ok-push.ensures.ok c.in_ok-ran.ensures.means c.in_ok-ran.ensures.straight.2 (c.in_ok-step.ensures.means ns gv)
