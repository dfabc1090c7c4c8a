use Rattle.std.proofs.Common.{◌∙◌, None}
use Rattle.tcl_eval.specs.Stack.{stack_next}
use Rattle.tcl_eval.specs.Engine.{state_of}
use Rattle.tcl_eval.proofs.Looping.{condition_pushed, goes_on}
use Rattle.tcl_eval.proofs.engine.Engine.enter_condition.Goals as goal

pub returns-clause-means : goal.returns-clause-means
returns-clause-means g c = λ ns gv.
    let t = g.H.Host.table in
    let old = c.args.self.now in
    let new = c.evaluate_read.new.self in
    let began = rw c.deref.ensures at c.in_ok-acted.ensures.means in
    goes_on ns t c.in_ok-acted.acted _ _ (stack_next ns t new.stack.items) (state_of new) new.budget gv _ c.gone_from.ensures c.in_ok-acted.ensures.enters
    (began ns None gv
    ∙ condition_pushed ns t old.stack.items c.push.new.self.items c.in_ok-again.again c.args.turning.value c.args.left c.args.levels (state_of old) old.budget gv c.in_ok-push.ensures.items c.in_ok-again.ensures.cases)
