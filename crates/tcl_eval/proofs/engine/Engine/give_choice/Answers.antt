use Rattle.std.proofs.Common.{None, ap}
use Rattle.tcl_eval.specs.Eval.{give}
use Rattle.tcl_eval.specs.Stack.{stack_next}
use Rattle.tcl_eval.specs.Engine.{state_of}
use Rattle.tcl_eval.specs.declared.stack.Ended.{Ended}
use Rattle.tcl_eval.proofs.Expressions.{choice_step}
use Rattle.tcl_eval.proofs.engine.Engine.give_choice.Goals as goal

pub returns-in_ok-ended-in-None-clause-means : goal.returns-in_ok-ended-in-None-clause-means
returns-in_ok-ended-in-None-clause-means g c = λ ns gv.
    let t = g.H.Host.table in
    let e = c.args.self.now in
    choice_step ns t None c.args.first.value c.args.second.value c.args.value.result c.args.levels c.args.value.code (stack_next ns t e.stack.items) (state_of e) e.budget gv _ c.if-value-ne-OK.false c.in-None.ensures (ap (λ (v : Ended). give v (stack_next ns t e.stack.items) (state_of e) e.budget gv) c.in_ok-ended-in-None.ensures)
