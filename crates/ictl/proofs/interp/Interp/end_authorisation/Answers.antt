use Rattle.std.proofs.Common.{ℕ, sym, ap, ◌∙◌, arith, ◌+◌, [], refl, subst}
use Rattle.natives.specs.Names.{names_of}
use Rattle.ictl.specs.declared.ending.Access.{Access}
use Rattle.http_resp.specs.declared.response.Response.{Response}
use Rattle.ictl.specs.Main.{authorised, access_end, responds}
use Rattle.ictl.specs.Settle.{account_of}
use Rattle.ictl.specs.Interps.{interp_state, IsWithin, interp_written}
use Rattle.ictl.proofs.Interpreters.{lowers_more, ok_both, ok_same, responded, rest_counts, stops_lower, write_falls, write_stands}
use Rattle.ictl.proofs.Withins.{err_same, none_within, rest_within, wants, wrote_here}
use Rattle.ictl.proofs.interp.Interp.end_authorisation.Goals as goal

pub returns-in-Allowed-clause-gives : goal.returns-in-Allowed-clause-gives
returns-in-Allowed-clause-gives g c =
    let names = names_of c.args.natives.now in
    let old = c.args.self.now in
    let bp = old.blueprint.value in
    let m = old.moment in
    let q = old.settling.questions in
    let b = old.settling.run.engine.budget in
    ok_same c.postauth.result _ _ (λ step h inside further. h inside further ∙ ap (λ (n : ℕ). (authorised names bp m old.visit) (interp_state old) (account_of n q inside) further) c.left-budget.ensures ∙ ap (λ (v : Access). access_end (authorised names bp m old.visit) v (interp_state old) (account_of b q inside) further) (sym c.in-Allowed.is ∙ c.access_of-said.ensures)) c.postauth.ensures.gives

pub returns-clause-gives : goal.returns-clause-gives
returns-clause-gives g c =
    let names = names_of c.args.natives.now in
    let old = c.args.self.now in
    let bp = old.blueprint.value in
    let m = old.moment in
    let q = old.settling.questions in
    let b = old.settling.run.engine.budget in
    ok_both c.fail.result _ _ _ (λ step is now inside further. responded names step _ old c.fail.new.self inside c.args.steps.now further is now ∙ ap (λ (v : Access). access_end (authorised names bp m old.visit) v (interp_state old) (account_of b q inside) further) (sym c.in-Failed.is ∙ c.access_of-said.ensures)) c.fail.ensures.stops c.fail.ensures.task

pub returns-in-Allowed-clause-lowers : goal.returns-in-Allowed-clause-lowers
returns-in-Allowed-clause-lowers g c = ok_same c.postauth.result _ _ (λ step h. lowers_more step c.postauth.new.self _ _ (omega arith) h) c.postauth.ensures.lowers

pub returns-clause-lowers : goal.returns-clause-lowers
returns-clause-lowers g c = ok_same c.fail.result _ _ (λ step is. stops_lower step _ c.fail.new.self _ is) c.fail.ensures.stops

pub returns-clause-falls : goal.returns-clause-falls
returns-clause-falls g c = ok_same c.fail.result _ _ (λ step is before less. write_falls step _ c.fail.new.self before is) c.fail.ensures.stops

pub returns-clause-next : goal.returns-clause-next
returns-clause-next g c = ok_both c.fail.result _ _ _ (λ step is now. write_stands step _ _ c.args.self.now c.fail.new.self is now c.requires.1) c.fail.ensures.stops c.fail.ensures.task

pub returns-in-Unauthorized-clause-gives : goal.returns-in-Unauthorized-clause-gives
returns-in-Unauthorized-clause-gives g c = λ inside further.
    let names = names_of c.args.natives.now in
    let old = c.args.self.now in
    let bp = old.blueprint.value in
    let m = old.moment in
    let q = old.settling.questions in
    let b = old.settling.run.engine.budget in
    responded names c.respond.result c.in_ok-response-in-Unauthorized.response old c.respond.new.self inside c.args.steps.now further c.respond.ensures.stops c.respond.ensures.task
    ∙ ap (λ (r : Response). responds r (interp_state old) (account_of b q inside) further) c.in_ok-response-in-Unauthorized.ensures
    ∙ ap (λ (v : Access). access_end (authorised names bp m old.visit) v (interp_state old) (account_of b q inside) further) (sym c.in-Unauthorized.is ∙ c.access_of-said.ensures)

pub returns-in-Forbidden-clause-gives : goal.returns-in-Forbidden-clause-gives
returns-in-Forbidden-clause-gives g c = λ inside further.
    let names = names_of c.args.natives.now in
    let old = c.args.self.now in
    let bp = old.blueprint.value in
    let m = old.moment in
    let q = old.settling.questions in
    let b = old.settling.run.engine.budget in
    responded names c.respond-in-Forbidden.result c.in_ok-response-in-Forbidden.response old c.respond-in-Forbidden.new.self inside c.args.steps.now further c.respond-in-Forbidden.ensures.stops c.respond-in-Forbidden.ensures.task
    ∙ ap (λ (r : Response). responds r (interp_state old) (account_of b q inside) further) c.in_ok-response-in-Forbidden.ensures
    ∙ ap (λ (v : Access). access_end (authorised names bp m old.visit) v (interp_state old) (account_of b q inside) further) (sym c.in-Forbidden.is ∙ c.access_of-said.ensures)

pub returns-in-Unauthorized-clause-lowers : goal.returns-in-Unauthorized-clause-lowers
returns-in-Unauthorized-clause-lowers g c = stops_lower c.respond.result _ c.respond.new.self _ c.respond.ensures.stops

pub returns-in-Unauthorized-clause-falls : goal.returns-in-Unauthorized-clause-falls
returns-in-Unauthorized-clause-falls g c = λ before less. write_falls c.respond.result _ c.respond.new.self before c.respond.ensures.stops

pub returns-in-Unauthorized-clause-next : goal.returns-in-Unauthorized-clause-next
returns-in-Unauthorized-clause-next g c = write_stands c.respond.result _ _ c.args.self.now c.respond.new.self c.respond.ensures.stops c.respond.ensures.task c.requires.1

pub returns-in-Forbidden-clause-lowers : goal.returns-in-Forbidden-clause-lowers
returns-in-Forbidden-clause-lowers g c = stops_lower c.respond-in-Forbidden.result _ c.respond-in-Forbidden.new.self _ c.respond-in-Forbidden.ensures.stops

pub returns-in-Forbidden-clause-falls : goal.returns-in-Forbidden-clause-falls
returns-in-Forbidden-clause-falls g c = λ before less. write_falls c.respond-in-Forbidden.result _ c.respond-in-Forbidden.new.self before c.respond-in-Forbidden.ensures.stops

pub returns-in-Forbidden-clause-next : goal.returns-in-Forbidden-clause-next
returns-in-Forbidden-clause-next g c = write_stands c.respond-in-Forbidden.result _ _ c.args.self.now c.respond-in-Forbidden.new.self c.respond-in-Forbidden.ensures.stops c.respond-in-Forbidden.ensures.task c.requires.1

pub returns-clause-counts : goal.returns-clause-counts
returns-clause-counts g c = rest_counts (names_of c.args.natives.now) c.args.self.now c.fail.new.self c.args.steps.now c.fail.ensures.rest

pub returns-in-Allowed-clause-most : goal.returns-in-Allowed-clause-most
returns-in-Allowed-clause-most g c =
    let names = names_of c.args.natives.now in
    let old = c.args.self.now in
    let bp = old.blueprint.value in
    let m = old.moment in
    let q = old.settling.questions in
    let b = old.settling.run.engine.budget in
    err_same c.postauth.result _ _
    (λ h inside. subst (IsWithin (inside + interp_written names old) c.args.steps.now c.postauth.new.steps c.postauth.new.self) (ap (λ (n : ℕ). (authorised names bp m old.visit) (interp_state old) (account_of n q inside) []) c.left-budget.ensures ∙ ap (λ (v : Access). access_end (authorised names bp m old.visit) v (interp_state old) (account_of b q inside) []) (sym c.in-Allowed.is ∙ c.access_of-said.ensures)) (h inside))
    c.postauth.ensures.most

pub returns-clause-most : goal.returns-clause-most
returns-clause-most g c =
    let names = names_of c.args.natives.now in
    let old = c.args.self.now in
    let bp = old.blueprint.value in
    let m = old.moment in
    let q = old.settling.questions in
    let b = old.settling.run.engine.budget in
    wants c.fail.result _ (λ inside. subst (IsWithin (inside + interp_written names old) c.args.steps.now c.args.steps.now c.fail.new.self)
    (ap (λ (v : Access). access_end (authorised names bp m old.visit) v (interp_state old) (account_of b q inside) []) (sym c.in-Failed.is ∙ c.access_of-said.ensures))
    (rest_within names old c.fail.new.self inside c.args.steps.now _ c.requires.1 c.fail.ensures.rest (wrote_here _ _ (interp_state old) inside [])))

pub returns-in_err-response-in-Unauthorized-clause-most : goal.returns-in_err-response-in-Unauthorized-clause-most
returns-in_err-response-in-Unauthorized-clause-most g c = wants c.from_residual.result _ (λ inside.
    let names = names_of c.args.natives.now in
    let old = c.args.self.now in
    let bp = old.blueprint.value in
    let m = old.moment in
    let q = old.settling.questions in
    let b = old.settling.run.engine.budget in
    subst (IsWithin (inside + interp_written names old) c.args.steps.now c.args.steps.now old)
    (ap (λ (v : Access). access_end (authorised names bp m old.visit) v (interp_state old) (account_of b q inside) []) (sym c.in-Unauthorized.is ∙ c.access_of-said.ensures))
    (none_within names old old inside c.args.steps.now _ c.requires.1 refl (wrote_here _ _ (interp_state old) inside [])))

pub returns-in_err-response-in-Forbidden-clause-most : goal.returns-in_err-response-in-Forbidden-clause-most
returns-in_err-response-in-Forbidden-clause-most g c = wants c.from_residual-in_err-response-in-Forbidden.result _ (λ inside.
    let names = names_of c.args.natives.now in
    let old = c.args.self.now in
    let bp = old.blueprint.value in
    let m = old.moment in
    let q = old.settling.questions in
    let b = old.settling.run.engine.budget in
    subst (IsWithin (inside + interp_written names old) c.args.steps.now c.args.steps.now old)
    (ap (λ (v : Access). access_end (authorised names bp m old.visit) v (interp_state old) (account_of b q inside) []) (sym c.in-Forbidden.is ∙ c.access_of-said.ensures))
    (none_within names old old inside c.args.steps.now _ c.requires.1 refl (wrote_here _ _ (interp_state old) inside [])))
