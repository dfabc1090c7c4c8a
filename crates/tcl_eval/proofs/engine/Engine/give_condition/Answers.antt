use Rattle.std.proofs.Common.{◌∙◌, sym, ap, []}
use Rattle.natives.specs.Names.{names_of}
use Rattle.tcl_eval.specs.Eval.{give, nested}
use Rattle.tcl_eval.specs.Loops.{turn_body, turns}
use Rattle.tcl_eval.specs.Stack.{stack_next}
use Rattle.tcl_eval.specs.Engine.{state_of}
use Rattle.tcl_eval.specs.Turns.{turn_next}
use Rattle.tcl_eval.specs.declared.branch.Turning.{Turning}
use Rattle.tcl_eval.specs.declared.stack.Ended.{Ended}
use Rattle.tcl_eval.proofs.engine.Engine.give_condition.Goals as goal

pub returns-in_ok-gone-in-Holds-clause-means : goal.returns-in_ok-gone-in-Holds-clause-means
returns-in_ok-gone-in-Holds-clause-means g c = λ gv.
    let ns = names_of c.args.natives.now in
    let t = g.H.Host.table in
    let inner = nested ns t c.args.levels in
    let old = c.args.self.now in
    let mid = c.body_straight.new.self in
    let turning = c.args.turning.value in
    let k = stack_next ns t mid.stack.items in
    let go = turns inner turning c.args.left k in
    let top = stack_next ns t old.stack.items in
    let test = rw c.in-Holds.is at c.in_ok-tested.ensures.means in
    c.in_ok-gone-in-Holds.ensures.means gv
    ∙ ap (λ (v : Turning). turn_next ns t inner v c.in_ok-turn-in-Holds.turn go k (state_of mid) mid.budget gv) (sym c.deref.ensures)
    ∙ c.in_ok-turn-in-Holds.ensures.means go k gv
    ∙ ap (λ (v : Turning). turn_body inner v go k (state_of old) old.budget gv) c.deref.ensures
    ∙ ap (λ st. turn_body inner turning (turns inner turning c.args.left (stack_next ns t st.items)) (stack_next ns t st.items) (state_of old) old.budget gv) c.in_ok-turn-in-Holds.ensures.straight.2
    ∙ test inner [] (turn_body inner turning (turns inner turning c.args.left top) top) (top 0 []) top (state_of old) old.budget gv

pub returns-in-Fails-clause-means : goal.returns-in-Fails-clause-means
returns-in-Fails-clause-means g c = λ gv.
    let ns = names_of c.args.natives.now in
    let t = g.H.Host.table in
    let inner = nested ns t c.args.levels in
    let old = c.args.self.now in
    let turning = c.args.turning.value in
    let top = stack_next ns t old.stack.items in
    let test = rw c.in-Fails.is at c.in_ok-tested.ensures.means in
    ap (λ (v : Ended). give v top (state_of old) old.budget gv) c.done.ensures
    ∙ test inner [] (turn_body inner turning (turns inner turning c.args.left top) top) (top 0 []) top (state_of old) old.budget gv

pub returns-in-Ends-clause-means : goal.returns-in-Ends-clause-means
returns-in-Ends-clause-means g c = λ gv.
    let ns = names_of c.args.natives.now in
    let t = g.H.Host.table in
    let inner = nested ns t c.args.levels in
    let old = c.args.self.now in
    let turning = c.args.turning.value in
    let top = stack_next ns t old.stack.items in
    let test = rw c.in-Ends.is at c.in_ok-tested.ensures.means in
    test inner [] (turn_body inner turning (turns inner turning c.args.left top) top) (top 0 []) top (state_of old) old.budget gv
