use Rattle.tcl_eval.specs.Stack.{stack_next}
use Rattle.tcl_eval.specs.Engine.{state_of}
use Rattle.tcl_eval.proofs.Expressions.{left_step}
use Rattle.tcl_eval.proofs.engine.Engine.give_left.Goals as goal

pub returns-clause-means : goal.returns-clause-means
returns-clause-means g c = λ ns gv.
    let t = g.H.Host.table in
    let e = c.args.self.now in
    left_step ns t c.args.op c.way_of.result c.args.right.value c.args.value.result c.args.levels c.args.value.code (stack_next ns t e.stack.items) (state_of e) e.budget gv _ c.if-value-ne-OK.false c.way_of.ensures (c.in_ok-step.ensures.means ns gv)
