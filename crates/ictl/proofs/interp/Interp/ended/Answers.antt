use Rattle.std.proofs.Common.{◌≡◌, ℕ, List, drop, sym, subst, ap, ◌∙◌, arith, ◌+◌, []}
use Rattle.natives.specs.Names.{names_of}
use Rattle.ictl.specs.Settle.{account_of}
use Rattle.ictl.specs.Main.{cleanups_from}
use Rattle.ictl.specs.Interps.{interp_state, IsWithin, interp_written}
use Rattle.ictl.specs.Steps.{Lowers, scripts_left}
use Rattle.ictl.specs.Falls.{EndFalls}
use Rattle.ictl.specs.declared.running.Stop.TheVariants as stops
use Rattle.ictl.specs.declared.task.Task.{Task}
use Rattle.ictl.specs.declared.task.Task.TheVariants.{Preauth, Authorise, Postauth, Page, Trace, Cleanup, Script}
use Rattle.ictl.proofs.Interpreters.{ended_over, in_task, lowers_more, ok_both, ok_same, responded, rest_counts, rest_ends, stops_lower, write_falls, write_stands}
use Rattle.ictl.proofs.Withins.{err_same, rest_within, wants, wrote_here}
use Rattle.ictl.proofs.interp.Interp.ended.Goals as goal

pub returns-in-Preauth-clause-gives : goal.returns-in-Preauth-clause-gives
returns-in-Preauth-clause-gives g c =
    let names = names_of c.args.natives.now in
    let old = c.args.self.now in
    ok_same c.end_preauth.result _ _ (λ step h inside further. h inside further ∙ in_task names (stops.Ended c.args.code c.args.value) (Preauth c.in-Preauth.next) old inside further c.in-Preauth.is) c.end_preauth.ensures.gives

pub returns-in-Preauth-clause-lowers : goal.returns-in-Preauth-clause-lowers
returns-in-Preauth-clause-lowers g c =
    let old = c.args.self.now in
    ok_same c.end_preauth.result _ _ (λ step h. subst (λ (t : Task). Lowers step c.end_preauth.new.self (scripts_left old.visit old.cleanups t)) (sym c.in-Preauth.is) h) c.end_preauth.ensures.lowers

pub returns-in-Preauth-clause-falls : goal.returns-in-Preauth-clause-falls
returns-in-Preauth-clause-falls g c =
    let old = c.args.self.now in
    ok_same c.end_preauth.result _ _ (λ step h before fell. h before (subst (λ (t : Task). EndFalls t old.settling before) c.in-Preauth.is fell)) c.end_preauth.ensures.falls

pub returns-in-Authorise-clause-gives : goal.returns-in-Authorise-clause-gives
returns-in-Authorise-clause-gives g c =
    let names = names_of c.args.natives.now in
    let old = c.args.self.now in
    ok_same c.end_authorisation.result _ _ (λ step h inside further. h inside further ∙ in_task names (stops.Ended c.args.code c.args.value) (Authorise) old inside further c.in-Authorise.is) c.end_authorisation.ensures.gives

pub returns-in-Authorise-clause-lowers : goal.returns-in-Authorise-clause-lowers
returns-in-Authorise-clause-lowers g c =
    let old = c.args.self.now in
    ok_same c.end_authorisation.result _ _ (λ step h. subst (λ (t : Task). Lowers step c.end_authorisation.new.self (scripts_left old.visit old.cleanups t)) (sym c.in-Authorise.is) h) c.end_authorisation.ensures.lowers

pub returns-in-Authorise-clause-falls : goal.returns-in-Authorise-clause-falls
returns-in-Authorise-clause-falls g c =
    let old = c.args.self.now in
    ok_same c.end_authorisation.result _ _ (λ step h before fell. h before (subst (λ (t : Task). EndFalls t old.settling before) c.in-Authorise.is fell)) c.end_authorisation.ensures.falls

pub returns-in-Postauth-clause-gives : goal.returns-in-Postauth-clause-gives
returns-in-Postauth-clause-gives g c =
    let names = names_of c.args.natives.now in
    let old = c.args.self.now in
    ok_same c.end_postauth.result _ _ (λ step h inside further. h inside further ∙ in_task names (stops.Ended c.args.code c.args.value) (Postauth c.in-Postauth.next) old inside further c.in-Postauth.is) c.end_postauth.ensures.gives

pub returns-in-Postauth-clause-lowers : goal.returns-in-Postauth-clause-lowers
returns-in-Postauth-clause-lowers g c =
    let old = c.args.self.now in
    ok_same c.end_postauth.result _ _ (λ step h. subst (λ (t : Task). Lowers step c.end_postauth.new.self (scripts_left old.visit old.cleanups t)) (sym c.in-Postauth.is) h) c.end_postauth.ensures.lowers

pub returns-in-Postauth-clause-falls : goal.returns-in-Postauth-clause-falls
returns-in-Postauth-clause-falls g c =
    let old = c.args.self.now in
    ok_same c.end_postauth.result _ _ (λ step h before fell. h before (subst (λ (t : Task). EndFalls t old.settling before) c.in-Postauth.is fell)) c.end_postauth.ensures.falls

pub returns-in-Trace-clause-gives : goal.returns-in-Trace-clause-gives
returns-in-Trace-clause-gives g c =
    let names = names_of c.args.natives.now in
    let old = c.args.self.now in
    ok_same c.end_trace.result _ _ (λ step h inside further. h inside further ∙ in_task names (stops.Ended c.args.code c.args.value) (Trace c.in-Trace.next c.in-Trace.ending) old inside further c.in-Trace.is) c.end_trace.ensures.gives

pub returns-in-Trace-clause-lowers : goal.returns-in-Trace-clause-lowers
returns-in-Trace-clause-lowers g c =
    let old = c.args.self.now in
    ok_same c.end_trace.result _ _ (λ step h. subst (λ (t : Task). Lowers step c.end_trace.new.self (scripts_left old.visit old.cleanups t)) (sym c.in-Trace.is) h) c.end_trace.ensures.lowers

pub returns-in-Trace-clause-falls : goal.returns-in-Trace-clause-falls
returns-in-Trace-clause-falls g c =
    let old = c.args.self.now in
    ok_same c.end_trace.result _ _ (λ step h before fell. h before (subst (λ (t : Task). EndFalls t old.settling before) c.in-Trace.is fell)) c.end_trace.ensures.falls

pub returns-in-Cleanup-clause-gives : goal.returns-in-Cleanup-clause-gives
returns-in-Cleanup-clause-gives g c =
    let names = names_of c.args.natives.now in
    let old = c.args.self.now in
    ok_same c.clean_up.result _ _ (λ step h inside further. h inside further ∙ ap (λ (b : ℕ). cleanups_from names old.blueprint.value old.moment (drop c.in-Cleanup.next old.cleanups) c.in-Cleanup.ending (interp_state old) (account_of b old.settling.questions inside) further) c.left-budget.ensures ∙ in_task names (stops.Ended c.args.code c.args.value) (Cleanup c.in-Cleanup.next c.in-Cleanup.ending) old inside further c.in-Cleanup.is) c.clean_up.ensures.gives

pub returns-in-Cleanup-clause-lowers : goal.returns-in-Cleanup-clause-lowers
returns-in-Cleanup-clause-lowers g c =
    let old = c.args.self.now in
    ok_same c.clean_up.result _ _ (λ step h. subst (λ (t : Task). Lowers step c.clean_up.new.self (scripts_left old.visit old.cleanups t)) (sym c.in-Cleanup.is) h) c.clean_up.ensures.lowers

pub returns-in-Cleanup-clause-falls : goal.returns-in-Cleanup-clause-falls
returns-in-Cleanup-clause-falls g c =
    let old = c.args.self.now in
    ok_same c.clean_up.result _ _ (λ step h before fell. h before (subst (λ (t : Task). EndFalls t old.settling before) c.in-Cleanup.is fell)) c.clean_up.ensures.falls

pub returns-in-Page-clause-gives : goal.returns-in-Page-clause-gives
returns-in-Page-clause-gives g c =
    let names = names_of c.args.natives.now in
    let old = c.args.self.now in
    ok_both c.end_page.result _ _ _
    (λ step is now inside further. responded names step _ old c.end_page.new.self inside c.args.steps.now further is now ∙ in_task names (stops.Ended c.args.code c.args.value) Page old inside further c.in-Page.is)
    c.end_page.ensures.stops c.end_page.ensures.task

pub returns-in-Script-clause-gives : goal.returns-in-Script-clause-gives
returns-in-Script-clause-gives g c = λ inside further.
    let names = names_of c.args.natives.now in
    let old = c.args.self.now in
    ended_over names c.end.result _ old c.end.new.self inside c.args.steps.now further c.end.ensures.stops c.end.ensures.task ∙ in_task names (stops.Ended c.args.code c.args.value) Script old inside further c.in-Script.is

pub returns-in_default-clause-gives : goal.returns-in_default-clause-gives
returns-in_default-clause-gives g c =
    let names = names_of c.args.natives.now in
    let old = c.args.self.now in
    ok_both c.end_procedure.result _ _ _
    (λ step is now inside further. responded names step _ old c.end_procedure.new.self inside c.args.steps.now further is now
    ∙ sym (rest_ends names c.args.code c.args.value old.task old inside further c.in_default.not-Preauth c.in_default.not-Authorise c.in_default.not-Postauth c.in_default.not-Page c.in_default.not-Trace c.in_default.not-Cleanup c.in_default.not-Script))
    c.end_procedure.ensures.stops c.end_procedure.ensures.task

pub returns-in-Page-clause-lowers : goal.returns-in-Page-clause-lowers
returns-in-Page-clause-lowers g c = ok_same c.end_page.result _ _ (λ step is. stops_lower step _ c.end_page.new.self _ is) c.end_page.ensures.stops

pub returns-in-Page-clause-falls : goal.returns-in-Page-clause-falls
returns-in-Page-clause-falls g c = ok_same c.end_page.result _ _ (λ step is before fell. write_falls step _ c.end_page.new.self before is) c.end_page.ensures.stops

pub returns-in-Page-clause-next : goal.returns-in-Page-clause-next
returns-in-Page-clause-next g c = ok_both c.end_page.result _ _ _ (λ step is now. write_stands step _ _ c.args.self.now c.end_page.new.self is now c.requires.1) c.end_page.ensures.stops c.end_page.ensures.task

pub returns-in_default-clause-lowers : goal.returns-in_default-clause-lowers
returns-in_default-clause-lowers g c = ok_same c.end_procedure.result _ _ (λ step is. stops_lower step _ c.end_procedure.new.self _ is) c.end_procedure.ensures.stops

pub returns-in_default-clause-falls : goal.returns-in_default-clause-falls
returns-in_default-clause-falls g c = ok_same c.end_procedure.result _ _ (λ step is before fell. write_falls step _ c.end_procedure.new.self before is) c.end_procedure.ensures.stops

pub returns-in_default-clause-next : goal.returns-in_default-clause-next
returns-in_default-clause-next g c = ok_both c.end_procedure.result _ _ _ (λ step is now. write_stands step _ _ c.args.self.now c.end_procedure.new.self is now c.requires.1) c.end_procedure.ensures.stops c.end_procedure.ensures.task

pub returns-in-Page-clause-counts : goal.returns-in-Page-clause-counts
returns-in-Page-clause-counts g c = rest_counts (names_of c.args.natives.now) c.args.self.now c.end_page.new.self c.args.steps.now c.end_page.ensures.rest

pub returns-in_default-clause-counts : goal.returns-in_default-clause-counts
returns-in_default-clause-counts g c = rest_counts (names_of c.args.natives.now) c.args.self.now c.end_procedure.new.self c.args.steps.now c.end_procedure.ensures.rest

pub returns-in-Preauth-clause-most : goal.returns-in-Preauth-clause-most
returns-in-Preauth-clause-most g c =
    let names = names_of c.args.natives.now in
    let old = c.args.self.now in
    err_same c.end_preauth.result _ _
    (λ h inside. subst (IsWithin (inside + interp_written names old) c.args.steps.now c.end_preauth.new.steps c.end_preauth.new.self) (in_task names (stops.Ended c.args.code c.args.value) (Preauth c.in-Preauth.next) old inside [] c.in-Preauth.is) (h inside))
    c.end_preauth.ensures.most

pub returns-in-Authorise-clause-most : goal.returns-in-Authorise-clause-most
returns-in-Authorise-clause-most g c =
    let names = names_of c.args.natives.now in
    let old = c.args.self.now in
    err_same c.end_authorisation.result _ _
    (λ h inside. subst (IsWithin (inside + interp_written names old) c.args.steps.now c.end_authorisation.new.steps c.end_authorisation.new.self) (in_task names (stops.Ended c.args.code c.args.value) (Authorise) old inside [] c.in-Authorise.is) (h inside))
    c.end_authorisation.ensures.most

pub returns-in-Postauth-clause-most : goal.returns-in-Postauth-clause-most
returns-in-Postauth-clause-most g c =
    let names = names_of c.args.natives.now in
    let old = c.args.self.now in
    err_same c.end_postauth.result _ _
    (λ h inside. subst (IsWithin (inside + interp_written names old) c.args.steps.now c.end_postauth.new.steps c.end_postauth.new.self) (in_task names (stops.Ended c.args.code c.args.value) (Postauth c.in-Postauth.next) old inside [] c.in-Postauth.is) (h inside))
    c.end_postauth.ensures.most

pub returns-in-Trace-clause-most : goal.returns-in-Trace-clause-most
returns-in-Trace-clause-most g c =
    let names = names_of c.args.natives.now in
    let old = c.args.self.now in
    err_same c.end_trace.result _ _
    (λ h inside. subst (IsWithin (inside + interp_written names old) c.args.steps.now c.end_trace.new.steps c.end_trace.new.self) (in_task names (stops.Ended c.args.code c.args.value) (Trace c.in-Trace.next c.in-Trace.ending) old inside [] c.in-Trace.is) (h inside))
    c.end_trace.ensures.most

pub returns-in-Cleanup-clause-most : goal.returns-in-Cleanup-clause-most
returns-in-Cleanup-clause-most g c =
    let names = names_of c.args.natives.now in
    let old = c.args.self.now in
    err_same c.clean_up.result _ _
    (λ h inside. subst (IsWithin (inside + interp_written names old) c.args.steps.now c.clean_up.new.steps c.clean_up.new.self) (ap (λ (b : ℕ). cleanups_from names old.blueprint.value old.moment (drop c.in-Cleanup.next old.cleanups) c.in-Cleanup.ending (interp_state old) (account_of b old.settling.questions inside) []) c.left-budget.ensures ∙ in_task names (stops.Ended c.args.code c.args.value) (Cleanup c.in-Cleanup.next c.in-Cleanup.ending) old inside [] c.in-Cleanup.is) (h inside))
    c.clean_up.ensures.most

pub returns-in-Page-clause-most : goal.returns-in-Page-clause-most
returns-in-Page-clause-most g c =
    let names = names_of c.args.natives.now in
    let old = c.args.self.now in
    let bp = old.blueprint.value in
    let m = old.moment in
    let q = old.settling.questions in
    wants c.end_page.result _ (λ inside. subst (IsWithin (inside + interp_written names old) c.args.steps.now c.args.steps.now c.end_page.new.self)
    (in_task names (stops.Ended c.args.code c.args.value) Page old inside [] c.in-Page.is)
    (rest_within names old c.end_page.new.self inside c.args.steps.now _ c.requires.1 c.end_page.ensures.rest (wrote_here _ _ (interp_state old) inside [])))

pub returns-in_default-clause-most : goal.returns-in_default-clause-most
returns-in_default-clause-most g c =
    let names = names_of c.args.natives.now in
    let old = c.args.self.now in
    let bp = old.blueprint.value in
    let m = old.moment in
    let q = old.settling.questions in
    wants c.end_procedure.result _ (λ inside. subst (IsWithin (inside + interp_written names old) c.args.steps.now c.args.steps.now c.end_procedure.new.self)
    (sym (rest_ends names c.args.code c.args.value old.task old inside [] c.in_default.not-Preauth c.in_default.not-Authorise c.in_default.not-Postauth c.in_default.not-Page c.in_default.not-Trace c.in_default.not-Cleanup c.in_default.not-Script))
    (rest_within names old c.end_procedure.new.self inside c.args.steps.now _ c.requires.1 c.end_procedure.ensures.rest (wrote_here _ _ (interp_state old) inside [])))
