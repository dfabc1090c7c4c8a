use Rattle.std.proofs.Common.{◌∙◌, sym, ap, drop, Some}
use Rattle.natives.specs.Names.{names_of}
use Rattle.tcl_eval.specs.Eval.{nested}
use Rattle.tcl_eval.specs.Loops.{walk_on}
use Rattle.tcl_eval.specs.Stack.{stack_next}
use Rattle.tcl_eval.specs.Engine.{state_of}
use Rattle.tcl_eval.specs.Turns.{each_next}
use Rattle.tcl_eval.specs.declared.branch.Walk.{Walk}
use Rattle.tcl_eval.proofs.Looping.{each_room}
use Rattle.tcl_eval.proofs.engine.Engine.next_values.Goals as goal

pub returns-clause-means : goal.returns-clause-means
returns-clause-means g c = λ gv.
    let ns = names_of c.args.natives.now in
    let t = g.H.Host.table in
    let inner = nested ns t c.args.levels in
    let old = c.args.self.now in
    let mid = c.walk_straight.new.self in
    let walked = c.in_ok-walked.walked in
    let walk = c.args.walk.value in
    let k = stack_next ns t mid.stack.items in
    c.in_ok-gone.ensures.means ns gv
    ∙ ap (λ (v : Walk). each_next ns t (Some walked.each) (walk_on inner v.names v.body walked.left (drop walked.at v.values) k) k (state_of mid) mid.budget gv) (sym c.deref.ensures)
    ∙ c.in_ok-walked.ensures.means k gv
    ∙ ap (λ (v : Walk). walk_on inner v.names v.body c.args.left (drop c.args.at v.values) k (state_of old) old.budget gv) c.deref.ensures
    ∙ ap (λ st. walk_on inner walk.names walk.body c.args.left (drop c.args.at walk.values) (stack_next ns t st.items) (state_of old) old.budget gv) c.in_ok-walked.ensures.straight.2

pub returns-clause-nears : goal.returns-clause-nears
returns-clause-nears g c =
    c.in_ok-gone.ensures.nears _ (each_room c.in_ok-walked.walked.each c.walk_straight.new.self c.args.self.now c.in_ok-walked.ensures.pays c.in_ok-walked.ensures.straight.2)
