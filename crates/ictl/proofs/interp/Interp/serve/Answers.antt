use Rattle.std.proofs.Common.{ℕ, List, arith, sym, ap, ◌∙◌, ◌+◌, [], refl, subst}
use Rattle.natives.specs.Names.{names_of}
use Rattle.http_resp.specs.declared.response.Response.{Response}
use Rattle.ictl.specs.Settle.{account_of}
use Rattle.ictl.specs.Main.{serve, responds}
use Rattle.ictl.specs.Interps.{interp_state, IsWithin, interp_written}
use Rattle.ictl.specs.declared.visit.Serving.{Serving}
use Rattle.ictl.specs.declared.visit.Serving.TheVariants.{Procedure}
use Rattle.ictl.proofs.Interpreters.{asked_page, ok_both, ok_same, responded, stops_lower, write_falls, write_stands}
use Rattle.server_host.specs.Hosts.{HostState}
use Rattle.tcl_eval.specs.State.{State}
use Rattle.cmd_table.specs.Commands.{Writes}
use Rattle.ictl.proofs.Withins.{err_same, none_within, wants}
use Rattle.ictl.proofs.Growing.{served_grows}
use Rattle.ictl.proofs.interp.Interp.serve.Goals as goal

pub returns-in_ok-called-in-Procedure-clause-gives : goal.returns-in_ok-called-in-Procedure-clause-gives
returns-in_ok-called-in-Procedure-clause-gives g c =
    let names = names_of c.args.natives.now in
    let old = c.args.self.now in
    let bp = old.blueprint.value in
    let m = old.moment in
    let q = old.settling.questions in
    ok_same c.call.result _ _
    (λ step h inside further. h inside further
    ∙ ap (λ (s : Serving). serve names bp m s (interp_state old) (account_of c.args.budget q inside) further) (ap (λ (w : List (List ℕ)). Procedure w) c.in_ok-called-in-Procedure.ensures ∙ sym c.in-Procedure.is ∙ c.in_ok-serving.ensures))
    c.call.ensures.gives

pub returns-in-Page-clause-gives : goal.returns-in-Page-clause-gives
returns-in-Page-clause-gives g c =
    let names = names_of c.args.natives.now in
    let old = c.args.self.now in
    let bp = old.blueprint.value in
    let m = old.moment in
    let q = old.settling.questions in
    let new = c.ask_page.new.self in
    ok_both c.ask_page.result _ _ _
    (λ step is task inside further.
    asked_page names step c.in-Page.path old new c.args.budget inside c.args.steps.now further is c.ask_page.ensures.state task c.ask_page.ensures.questions c.ask_page.ensures.inner
    c.ask_page.ensures.holds.blueprint c.ask_page.ensures.same.moment
    ∙ ap (λ (s : Serving). serve names bp m s (interp_state old) (account_of c.args.budget q inside) further) (sym c.in-Page.is ∙ c.in_ok-serving.ensures))
    c.ask_page.ensures.asks c.ask_page.ensures.task

pub returns-in_ok-response-in-Nothing-clause-gives : goal.returns-in_ok-response-in-Nothing-clause-gives
returns-in_ok-response-in-Nothing-clause-gives g c = λ inside further.
    let names = names_of c.args.natives.now in
    let old = c.args.self.now in
    let bp = old.blueprint.value in
    let m = old.moment in
    let q = old.settling.questions in
    responded names c.respond.result c.in_ok-response-in-Nothing.response old c.respond.new.self inside c.args.steps.now further c.respond.ensures.stops c.respond.ensures.task
    ∙ ap (λ (r : Response). responds r (interp_state old) (account_of c.args.budget q inside) further) c.in_ok-response-in-Nothing.ensures
    ∙ ap (λ (s : Serving). serve names bp m s (interp_state old) (account_of c.args.budget q inside) further) (sym c.in-Nothing.is ∙ c.in_ok-serving.ensures)

pub returns-in_ok-response-in-Nothing-clause-lowers : goal.returns-in_ok-response-in-Nothing-clause-lowers
returns-in_ok-response-in-Nothing-clause-lowers g c = stops_lower c.respond.result _ c.respond.new.self _ c.respond.ensures.stops

pub returns-in_ok-response-in-Nothing-clause-falls : goal.returns-in_ok-response-in-Nothing-clause-falls
returns-in_ok-response-in-Nothing-clause-falls g c = λ before less. write_falls c.respond.result _ c.respond.new.self before c.respond.ensures.stops

pub returns-in_ok-response-in-Nothing-clause-next : goal.returns-in_ok-response-in-Nothing-clause-next
returns-in_ok-response-in-Nothing-clause-next g c = write_stands c.respond.result _ _ c.args.self.now c.respond.new.self c.respond.ensures.stops c.respond.ensures.task c.requires.1

pub returns-in_ok-called-in-Procedure-clause-lowers : goal.returns-in_ok-called-in-Procedure-clause-lowers
returns-in_ok-called-in-Procedure-clause-lowers g c = ok_same c.call.result _ _ (λ step h. h _ (omega arith)) c.call.ensures.lowers

pub returns-in-Page-clause-lowers : goal.returns-in-Page-clause-lowers
returns-in-Page-clause-lowers g c = ok_same c.ask_page.result _ _ (λ step is. stops_lower step _ c.ask_page.new.self _ is) c.ask_page.ensures.asks

pub returns-in_ok-called-in-Procedure-clause-most : goal.returns-in_ok-called-in-Procedure-clause-most
returns-in_ok-called-in-Procedure-clause-most g c =
    let names = names_of c.args.natives.now in
    let old = c.args.self.now in
    let bp = old.blueprint.value in
    let m = old.moment in
    let q = old.settling.questions in
    err_same c.call.result _ _
    (λ h inside. subst (IsWithin (inside + interp_written names old) c.args.steps.now c.call.new.steps c.call.new.self) (ap (λ (s : Serving). serve names bp m s (interp_state old) (account_of c.args.budget q inside) []) (ap (λ (w : List (List ℕ)). Procedure w) c.in_ok-called-in-Procedure.ensures ∙ sym c.in-Procedure.is ∙ c.in_ok-serving.ensures)) (h inside))
    c.call.ensures.most

pub returns-in_err-serving-clause-most : goal.returns-in_err-serving-clause-most
returns-in_err-serving-clause-most g c = wants c.from_residual.result _ (λ inside.
    let names = names_of c.args.natives.now in
    let old = c.args.self.now in
    let bp = old.blueprint.value in
    let m = old.moment in
    let q = old.settling.questions in
    none_within names old old inside c.args.steps.now _ c.requires.1 refl (served_grows c.made_grows.ensures names old (interp_state old) (account_of c.args.budget q inside) []))

pub returns-in_err-called-in-Procedure-clause-most : goal.returns-in_err-called-in-Procedure-clause-most
returns-in_err-called-in-Procedure-clause-most g c = wants c.from_residual-in_err-called-in-Procedure.result _ (λ inside.
    let names = names_of c.args.natives.now in
    let old = c.args.self.now in
    let bp = old.blueprint.value in
    let m = old.moment in
    let q = old.settling.questions in
    none_within names old old inside c.args.steps.now _ c.requires.1 refl (served_grows c.made_grows.ensures names old (interp_state old) (account_of c.args.budget q inside) []))

pub returns-in_err-response-in-Nothing-clause-most : goal.returns-in_err-response-in-Nothing-clause-most
returns-in_err-response-in-Nothing-clause-most g c = wants c.from_residual-in_err-response-in-Nothing.result _ (λ inside.
    let names = names_of c.args.natives.now in
    let old = c.args.self.now in
    let bp = old.blueprint.value in
    let m = old.moment in
    let q = old.settling.questions in
    none_within names old old inside c.args.steps.now _ c.requires.1 refl (served_grows c.made_grows.ensures names old (interp_state old) (account_of c.args.budget q inside) []))

pub returns-in-Page-clause-most : goal.returns-in-Page-clause-most
returns-in-Page-clause-most g c =
    let names = names_of c.args.natives.now in
    let old = c.args.self.now in
    let bp = old.blueprint.value in
    let m = old.moment in
    let q = old.settling.questions in
    wants c.ask_page.result _ (λ inside.
    none_within names old c.ask_page.new.self inside c.args.steps.now _ c.requires.1 (ap (λ (s : State HostState). Writes s.made) c.ask_page.ensures.state)
    (served_grows c.made_grows.ensures names old (interp_state old) (account_of c.args.budget q inside) []))
