use Rattle.std.proofs.Common.{◌∙◌, ap, drop}
use Rattle.tcl_eval.specs.Branches.{choose}
use Rattle.tcl_eval.specs.Chosen.{chosen_next}
use Rattle.tcl_eval.specs.Eval.{nested}
use Rattle.tcl_eval.specs.Stack.{stack_next}
use Rattle.tcl_eval.specs.Engine.{state_of}
use Rattle.tcl_eval.specs.declared.branch.Branches.{Branches}
use Rattle.tcl_eval.specs.declared.condition.Chosen.TheVariants as chosen
use Rattle.tcl_eval.proofs.Commands.{alike_same}
use Rattle.tcl_eval.proofs.engine.Engine.choose.Goals as goal

pub returns-in-Ends-clause-means : goal.returns-in-Ends-clause-means
returns-in-Ends-clause-means g c = λ ns opened gv.
    let t = g.H.Host.table in
    let inner = nested ns t c.args.levels in
    let all = c.args.branches.value in
    let did = rw (c.in-Ends.is, c.deref.ensures) at c.in_ok-value.ensures.means in
    alike_same ns t c.choose_straight.new.self c.args.self.now (chosen_next inner all (chosen.Ends c.in-Ends.value)) (choose inner (drop c.args.at all.clauses) all.last) (did ns c.args.levels) c.in_ok-value.ensures.straight.2 gv

pub returns-in-Spent-clause-means : goal.returns-in-Spent-clause-means
returns-in-Spent-clause-means g c = λ ns opened gv.
    let t = g.H.Host.table in
    let inner = nested ns t c.args.levels in
    let all = c.args.branches.value in
    let did = rw (c.in-Spent.is, c.deref.ensures) at c.in_ok-value.ensures.means in
    alike_same ns t c.choose_straight.new.self c.args.self.now (chosen_next inner all chosen.Spent) (choose inner (drop c.args.at all.clauses) all.last) (did ns c.args.levels) c.in_ok-value.ensures.straight.2 gv

pub returns-in-Body-clause-means : goal.returns-in-Body-clause-means
returns-in-Body-clause-means g c = λ ns opened gv.
    let t = g.H.Host.table in
    let inner = nested ns t c.args.levels in
    let all = c.args.branches.value in
    let did = rw (c.in-Body.is, c.deref.ensures) at c.in_ok-value.ensures.means in
    c.in_ok-acted-in-Body.ensures.means ns opened gv
    ∙ alike_same ns t c.choose_straight.new.self c.args.self.now (chosen_next inner all (chosen.Body c.in-Body.body)) (choose inner (drop c.args.at all.clauses) all.last) (did ns c.args.levels) c.in_ok-value.ensures.straight.2 gv

pub returns-clause-means : goal.returns-clause-means
returns-clause-means g c = λ ns opened gv.
    let t = g.H.Host.table in
    let inner = nested ns t c.args.levels in
    let all = c.args.branches.value in
    let new = c.choose_straight.new.self in
    let did = rw (c.in-Waits.is, c.deref.ensures) at c.in_ok-value.ensures.means in
    c.in_ok-acted-in-Waits.ensures.means ns opened gv
    ∙ ap (λ (bs : Branches). choose inner (drop c.in-Waits.at bs.clauses) bs.last (stack_next ns t new.stack.items) (state_of new) new.budget gv) c.in_ok-again-in-Waits.ensures.cases
    ∙ alike_same ns t new c.args.self.now (choose inner (drop c.in-Waits.at all.clauses) all.last) (choose inner (drop c.args.at all.clauses) all.last) (did ns c.args.levels) c.in_ok-value.ensures.straight.2 gv
