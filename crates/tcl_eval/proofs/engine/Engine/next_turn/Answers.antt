use Rattle.std.proofs.Common.{◌∙◌, sym, ap, Some}
use Rattle.natives.specs.Names.{names_of}
use Rattle.tcl_eval.specs.Eval.{nested}
use Rattle.tcl_eval.specs.Loops.{turns}
use Rattle.tcl_eval.specs.Stack.{stack_next}
use Rattle.tcl_eval.specs.Engine.{state_of}
use Rattle.tcl_eval.specs.Turns.{turn_next}
use Rattle.tcl_eval.specs.declared.branch.Turning.{Turning}
use Rattle.tcl_eval.proofs.Looping.{turn_room}
use Rattle.tcl_eval.proofs.engine.Engine.next_turn.Goals as goal

pub returns-clause-means : goal.returns-clause-means
returns-clause-means g c = λ gv.
    let ns = names_of c.args.natives.now in
    let t = g.H.Host.table in
    let inner = nested ns t c.args.levels in
    let old = c.args.self.now in
    let mid = c.turns_straight.new.self in
    let turned = c.in_ok-turned.turned in
    let k = stack_next ns t mid.stack.items in
    c.in_ok-gone.ensures.means ns gv
    ∙ ap (λ (v : Turning). turn_next ns t inner v (Some turned.turn) (turns inner v turned.left k) k (state_of mid) mid.budget gv) (sym c.deref.ensures)
    ∙ c.in_ok-turned.ensures.means k gv
    ∙ ap (λ (v : Turning). turns inner v c.args.left k (state_of old) old.budget gv) c.deref.ensures
    ∙ ap (λ st. turns inner c.args.turning.value c.args.left (stack_next ns t st.items) (state_of old) old.budget gv) c.in_ok-turned.ensures.straight.2

pub returns-clause-nears : goal.returns-clause-nears
returns-clause-nears g c =
    c.in_ok-gone.ensures.nears _ (turn_room c.in_ok-turned.turned.turn c.turns_straight.new.self c.args.self.now c.in_ok-turned.ensures.pays c.in_ok-turned.ensures.straight.2)
