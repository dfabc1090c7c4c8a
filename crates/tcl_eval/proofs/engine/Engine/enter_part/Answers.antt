use Rattle.std.proofs.Common.{◌∙◌, ap, refl, arith}
use Rattle.tcl_expr.specs.View.{tree_of}
use Rattle.tcl_eval.specs.State.{Next}
use Rattle.tcl_eval.specs.Eval.{nested}
use Rattle.tcl_eval.specs.Expressions.{run_expression}
use Rattle.tcl_eval.specs.Engine.{state_of}
use Rattle.tcl_eval.proofs.Stacks.{freed, pushed, weighed}
use Rattle.tcl_eval.proofs.Expressions.{part_step}
use Rattle.tcl_eval.proofs.engine.Engine.enter_part.Goals as goal

pub returns-in-Some-clause-means : goal.returns-in-Some-clause-means
returns-in-Some-clause-means g c = λ ns gv.
    let t = g.H.Host.table in
    let e = c.args.self.now in
    let did = rw (c.in-Some.is, c.deref.ensures) at c.in_ok-found.ensures.means in
    did ns gv
    ∙ ap (λ (k : Next g.row.H.Denot). run_expression (nested ns t c.args.levels) (tree_of c.args.part.value) k (state_of e) e.budget gv) (pushed ns t e.stack.items c.push.new.self.items c.args.frame c.in_ok-push.ensures.items)

pub returns-in-Some-clause-weighs : goal.returns-in-Some-clause-weighs
returns-in-Some-clause-weighs g c =
    let weighs = rw (c.in-Some.is, c.deref.ensures) at c.in_ok-found.ensures.weighs in
    omega (arith, weighed _ _ _ c.in_ok-push.ensures.items, weighs)

pub returns-in-Some-clause-keeps : goal.returns-in-Some-clause-keeps
returns-in-Some-clause-keeps g c = λ none.
    let free = rw c.in-Some.is at c.in_ok-found.ensures.free in
    (omega arith, refl, omega (arith, freed _ _ _ c.in_ok-push.ensures.items, none, free))

pub returns-in_ok-push-in-None-clause-means : goal.returns-in_ok-push-in-None-clause-means
returns-in_ok-push-in-None-clause-means g c = λ ns gv.
    let e = c.args.self.now in
    part_step ns g.H.Host.table e.stack.items c.push.new.self.items c.push-in-None.new.self.items c.args.frame c.args.part c.args.levels c.done.result (state_of e) e.budget gv c.in_ok-push.ensures.items c.in_ok-push-in-None.ensures.items c.done.ensures

pub returns-in_ok-push-in-None-clause-weighs : goal.returns-in_ok-push-in-None-clause-weighs
returns-in_ok-push-in-None-clause-weighs g c =
    let e1 = weighed _ _ _ c.in_ok-push.ensures.items in
    let e2 = weighed _ _ _ c.in_ok-push-in-None.ensures.items in
    omega (arith, e1, e2)
