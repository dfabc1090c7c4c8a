use Rattle.std.proofs.Common.{ℕ, ap, ◌∙◌, refl, arith, ◌+◌, [], subst}
use Rattle.natives.specs.Names.{names_of}
use Rattle.ictl.specs.Replies.{verdict}
use Rattle.ictl.specs.Settle.{account_of}
use Rattle.ictl.specs.Interps.{interp_state, IsWithin, interp_written, preauth_from, access_from}
use Rattle.ictl.specs.declared.ending.After.TheVariants as afters
use Rattle.ictl.specs.declared.ending.Ending.TheVariants.{Answered}
use Rattle.ictl.specs.declared.task.Task.TheVariants.{Writing}
use Rattle.ictl.proofs.Growing.{filter_grows, visited_grows, unauthorised_grows}
use Rattle.ictl.proofs.Interpreters.{follows_so, lowers_more, ok_same, responded, rest_counts, stops_lower, write_falls, write_stands}
use Rattle.ictl.proofs.Withins.{err_same, none_within, wants}
use Rattle.ictl.proofs.interp.Interp.end_preauth.Goals as goal

pub returns-in-Next-clause-gives : goal.returns-in-Next-clause-gives
returns-in-Next-clause-gives g c =
    let names = names_of c.args.natives.now in
    let old = c.args.self.now in
    let q = old.settling.questions in
    let b = old.settling.run.engine.budget in
    let next = preauth_from names old c.args.next in
    let behind = access_from names old in
    ok_same c.preauth.result _ _
    (λ step h inside further. h inside further ∙ ap (λ (n : ℕ). next (interp_state old) (account_of n q inside) further) c.left-budget.ensures
    ∙ follows_so afters.Next c.in_ok-after.after (verdict c.args.code c.args.value) next behind (interp_state old) (account_of b q inside) further c.in-Next.is c.in_ok-after.ensures)
    c.preauth.ensures.gives

pub returns-in-Behind-clause-gives : goal.returns-in-Behind-clause-gives
returns-in-Behind-clause-gives g c =
    let names = names_of c.args.natives.now in
    let old = c.args.self.now in
    let q = old.settling.questions in
    let b = old.settling.run.engine.budget in
    let next = preauth_from names old c.args.next in
    let behind = access_from names old in
    ok_same c.authorise.result _ _
    (λ step h inside further. h inside further ∙ ap (λ (n : ℕ). behind (interp_state old) (account_of n q inside) further) c.left-budget.ensures
    ∙ follows_so afters.Behind c.in_ok-after.after (verdict c.args.code c.args.value) next behind (interp_state old) (account_of b q inside) further c.in-Behind.is c.in_ok-after.ensures)
    c.authorise.ensures.gives

pub returns-clause-gives : goal.returns-clause-gives
returns-clause-gives g c = λ inside further.
    let names = names_of c.args.natives.now in
    let old = c.args.self.now in
    let q = old.settling.questions in
    let b = old.settling.run.engine.budget in
    responded names c.respond.result c.in-Responds.response old c.respond.new.self inside c.args.steps.now further c.respond.ensures.stops c.respond.ensures.task
    ∙ follows_so (afters.Responds c.in-Responds.response) c.in_ok-after.after (verdict c.args.code c.args.value) (preauth_from names old c.args.next) (access_from names old) (interp_state old) (account_of b q inside) further c.in-Responds.is c.in_ok-after.ensures

pub returns-in-Behind-clause-lowers : goal.returns-in-Behind-clause-lowers
returns-in-Behind-clause-lowers g c = ok_same c.authorise.result _ _ (λ step h. lowers_more step c.authorise.new.self _ _ (omega arith) h) c.authorise.ensures.lowers

pub returns-clause-lowers : goal.returns-clause-lowers
returns-clause-lowers g c = stops_lower c.respond.result _ c.respond.new.self _ c.respond.ensures.stops

pub returns-clause-falls : goal.returns-clause-falls
returns-clause-falls g c = λ before less. write_falls c.respond.result _ c.respond.new.self before c.respond.ensures.stops

pub returns-clause-next : goal.returns-clause-next
returns-clause-next g c = write_stands c.respond.result _ _ c.args.self.now c.respond.new.self c.respond.ensures.stops c.respond.ensures.task c.requires.1

pub returns-clause-counts : goal.returns-clause-counts
returns-clause-counts g c = rest_counts (names_of c.args.natives.now) c.args.self.now c.respond.new.self c.args.steps.now (Writing Answered, c.respond.ensures.task)

pub returns-in_err-after-clause-most : goal.returns-in_err-after-clause-most
returns-in_err-after-clause-most g c = wants c.from_residual.result _ (λ inside.
    let names = names_of c.args.natives.now in
    let old = c.args.self.now in
    let q = old.settling.questions in
    let b = old.settling.run.engine.budget in
    let grows = c.made_grows.ensures in
    none_within names old old inside c.args.steps.now _ c.requires.1 refl
    (filter_grows (preauth_from names old c.args.next) (access_from names old) (verdict c.args.code c.args.value) (visited_grows grows names old c.args.next) (unauthorised_grows grows names old) (interp_state old) (account_of b q inside) []))

pub returns-in-Next-clause-most : goal.returns-in-Next-clause-most
returns-in-Next-clause-most g c =
    let names = names_of c.args.natives.now in
    let old = c.args.self.now in
    let q = old.settling.questions in
    let b = old.settling.run.engine.budget in
    let next = preauth_from names old c.args.next in
    let behind = access_from names old in
    err_same c.preauth.result _ _
    (λ h inside. subst (IsWithin (inside + interp_written names old) c.args.steps.now c.preauth.new.steps c.preauth.new.self)
    (ap (λ (n : ℕ). next (interp_state old) (account_of n q inside) []) c.left-budget.ensures
    ∙ follows_so afters.Next c.in_ok-after.after (verdict c.args.code c.args.value) next behind (interp_state old) (account_of b q inside) [] c.in-Next.is c.in_ok-after.ensures)
    (h inside))
    c.preauth.ensures.most

pub returns-in-Behind-clause-most : goal.returns-in-Behind-clause-most
returns-in-Behind-clause-most g c =
    let names = names_of c.args.natives.now in
    let old = c.args.self.now in
    let q = old.settling.questions in
    let b = old.settling.run.engine.budget in
    let next = preauth_from names old c.args.next in
    let behind = access_from names old in
    err_same c.authorise.result _ _
    (λ h inside. subst (IsWithin (inside + interp_written names old) c.args.steps.now c.authorise.new.steps c.authorise.new.self)
    (ap (λ (n : ℕ). behind (interp_state old) (account_of n q inside) []) c.left-budget.ensures
    ∙ follows_so afters.Behind c.in_ok-after.after (verdict c.args.code c.args.value) next behind (interp_state old) (account_of b q inside) [] c.in-Behind.is c.in_ok-after.ensures)
    (h inside))
    c.authorise.ensures.most
