use Rattle.std.proofs.Common.{◌∙◌, sym, ap}
use Rattle.natives.specs.Names.{names_of}
use Rattle.tcl_eval.specs.Eval.{nested}
use Rattle.tcl_eval.specs.Loops.{between, in_loop, turns}
use Rattle.tcl_eval.specs.Stack.{stack_next}
use Rattle.tcl_eval.specs.Engine.{state_of}
use Rattle.tcl_eval.specs.Turns.{turn_next}
use Rattle.tcl_eval.specs.declared.branch.Turning.{Turning}
use Rattle.tcl_eval.proofs.engine.Engine.give_body.Goals as goal

pub returns-clause-means : goal.returns-clause-means
returns-clause-means g c = λ gv.
    let ns = names_of c.args.natives.now in
    let t = g.H.Host.table in
    let inner = nested ns t c.args.levels in
    let old = c.args.self.now in
    let mid = c.behind_straight.new.self in
    let turning = c.args.turning.value in
    let value = c.args.value in
    let k = stack_next ns t mid.stack.items in
    let go = turns inner turning c.args.left k in
    c.in_ok-gone.ensures.means gv
    ∙ ap (λ (v : Turning). turn_next ns t inner v c.in_ok-turn.turn go k (state_of mid) mid.budget gv) (sym c.deref.ensures)
    ∙ c.in_ok-turn.ensures.means go k gv
    ∙ ap (λ (v : Turning). in_loop (between inner v.next go k) k value.code value.result (state_of old) old.budget gv) c.deref.ensures
    ∙ ap (λ st. in_loop (between inner turning.next (turns inner turning c.args.left (stack_next ns t st.items)) (stack_next ns t st.items)) (stack_next ns t st.items) value.code value.result (state_of old) old.budget gv) c.in_ok-turn.ensures.straight.2
