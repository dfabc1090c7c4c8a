use Rattle.std.proofs.Common.{arith}
use Rattle.tcl_eval.specs.Engine.{state_of}
use Rattle.tcl_eval.proofs.Stacks.{weighed}
use Rattle.tcl_eval.proofs.Expressions.{expression_step}
use Rattle.tcl_eval.proofs.engine.Engine.enter_chosen.Goals as goal

pub returns-clause-means : goal.returns-clause-means
returns-clause-means g c = λ ns gv.
    let e = c.args.self.now in
    expression_step ns g.H.Host.table e.stack.items c.push.new.self.items c.args.part c.args.levels c.done.result (state_of e) e.budget gv c.in_ok-push.ensures.items c.done.ensures

pub returns-clause-weighs : goal.returns-clause-weighs
returns-clause-weighs g c =
    let e1 = weighed _ _ _ c.in_ok-push.ensures.items in
    omega (arith, e1)
