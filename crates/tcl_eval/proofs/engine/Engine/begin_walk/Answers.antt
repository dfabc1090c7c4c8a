use Rattle.std.proofs.Common.{refl}
use Rattle.tcl_eval.specs.Eval.{nested}
use Rattle.tcl_eval.specs.Stack.{stack_next}
use Rattle.tcl_eval.specs.Engine.{state_of}
use Rattle.tcl_eval.proofs.Looping.{walk_pushed}
use Rattle.tcl_eval.proofs.Turns.{walk_step}
use Rattle.tcl_eval.proofs.engine.Engine.begin_walk.Goals as goal

pub returns-clause-means : goal.returns-clause-means
returns-clause-means g c = λ ns opened gv.
    let t = g.H.Host.table in
    let e = c.args.self.now in
    let shared = c.in_ok-walk.walk in
    walk_step ns t (nested ns t c.args.levels) c.args.walk shared.value c.div_ceil-turns.result c.len.result c.len-2.result (stack_next ns t e.stack.items) (state_of e) e.budget gv _ c.in_ok-walk.ensures.ok c.div_ceil-turns.ensures c.len.ensures c.len-2.ensures
    (walk_pushed ns t e.stack.items c.push.new.self.items shared shared.value 0 c.div_ceil-turns.result c.args.levels c.done.result (state_of e) e.budget gv c.in_ok-push.ensures.items refl c.done.ensures)
