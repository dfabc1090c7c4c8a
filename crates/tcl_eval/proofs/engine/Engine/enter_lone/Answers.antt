use Rattle.std.proofs.Common.{◌≡◌, suc, ◌-◌, arith}
use Rattle.natives.specs.Names.{names_of}
use Rattle.tcl_eval.specs.Engine.{state_of}
use Rattle.tcl_eval.proofs.Evaluations.{lone_runs}
use Rattle.tcl_eval.proofs.Stacks.{weighed}
use Rattle.tcl_eval.proofs.engine.Engine.enter_lone.Goals as goal

pub returns-clause-means : goal.returns-clause-means
returns-clause-means g c = λ gv.
    let ns = names_of c.args.natives.now in
    let e = c.args.self.now in
    let l : c.args.levels ≡ suc (c.args.levels - 1) = omega arith in
    lone_runs ns g.H.Host.table e.stack.items c.push.new.self.items c.args.script c.args.levels (c.args.levels - 1) c.done.result (state_of e) e.budget gv _ c.in_ok-push.ensures.items l c.done.ensures (c.in_ok-step.ensures.means gv)

pub returns-clause-falls : goal.returns-clause-falls
returns-clause-falls g c =
    let e1 = weighed _ _ _ c.in_ok-push.ensures.items in
    omega (arith, e1, c.in_ok-step.ensures.falls)
