use Rattle.std.proofs.Common.{◌≡◌, ℕ, ◌+◌, List, sym, ap, ◌∙◌, refl, arith, [], drop, subst}
use Rattle.natives.specs.Names.{names_of}
use Rattle.tcl_eval.specs.declared.outcome.Outcome.{Outcome}
use Rattle.tcl_eval.specs.declared.outcome.Work.TheVariants as works
use Rattle.ictl.specs.Settle.{account_of}
use Rattle.ictl.specs.Main.{ends, both, cleanups_from}
use Rattle.ictl.specs.Interps.{interp_state, IsWithin, interp_written}
use Rattle.ictl.specs.declared.task.Task.TheVariants.{Cleanup}
use Rattle.ictl.proofs.Interpreters.{ok_same, holds_on, ends_less, from_outset, outset_counts, ended_over}
use Rattle.ictl.proofs.Growing.{cleanups_grow}
use Rattle.ictl.proofs.Withins.{err_same, none_within, outset_within, wants}
use Rattle.ictl.proofs.interp.Interp.clean_up.Goals as goal

pub returns-in-None-clause-gives : goal.returns-in-None-clause-gives
returns-in-None-clause-gives g c = λ inside further.
    let names = names_of c.args.natives.now in
    let old = c.args.self.now in
    let bp = old.blueprint.value in
    let m = old.moment in
    let q = old.settling.questions in
    let here = rw c.in-None.is at c.in_ok-found.ensures.here in
    ended_over names c.end.result c.both.result old c.end.new.self inside c.args.steps.now further c.end.ensures.stops c.end.ensures.task
    ∙ ap (λ (o : Outcome). ends o (interp_state old) inside further) (c.both.ensures ∙ ap (λ (o : Outcome). both c.args.ending o) c.answered.ensures)
    ∙ sym (ap (λ (l : List (List ℕ)). cleanups_from names bp m l c.args.ending (interp_state old) (account_of c.args.budget q inside) further) here)

pub returns-in-Some-clause-gives : goal.returns-in-Some-clause-gives
returns-in-Some-clause-gives g c =
    let names = names_of c.args.natives.now in
    let old = c.args.self.now in
    let bp = old.blueprint.value in
    let m = old.moment in
    let q = old.settling.questions in
    let here = rw c.in-Some.is at c.in_ok-found.ensures.here in
    ok_same c.run.result _ _
    (λ step h inside further.
    from_outset names (works.Script c.in-Some.script) (Cleanup (c.args.next + 1) c.args.ending) old c.run.new.self (record old.settling { run = c.set_out.new.self }) step c.args.budget inside
    c.run.new.steps c.args.steps.now further c.set_out.ensures.state refl refl (h inside further)
    ∙ sym (ap (λ (l : List (List ℕ)). cleanups_from names bp m l c.args.ending (interp_state old) (account_of c.args.budget q inside) further) here))
    c.run.ensures.gives

pub returns-in-Some-clause-counts : goal.returns-in-Some-clause-counts
returns-in-Some-clause-counts g c =
    let old = c.args.self.now in
    outset_counts (names_of c.args.natives.now) old c.run.new.self (record old.settling { run = c.set_out.new.self }) c.run.new.steps c.args.steps.now c.set_out.ensures.state refl c.run.ensures.counts

pub returns-in-Some-clause-holds : goal.returns-in-Some-clause-holds
returns-in-Some-clause-holds g c =
    let old = c.args.self.now in
    holds_on c.run.new.self (record old { settling = record old.settling { run = c.set_out.new.self } }) old c.run.ensures.holds
    (record { engine = c.set_out.ensures.lasts; blueprint = refl; mark = refl; routes = refl; cleanups = refl; authorises = refl })

pub returns-in-Some-clause-lowers : goal.returns-in-Some-clause-lowers
returns-in-Some-clause-lowers g c =
    let small = rw c.in-Some.is at c.in_ok-found.ensures.small in
    ok_same c.run.result _ _ (λ step h. h _ (omega (arith, small))) c.run.ensures.lowers

pub returns-in-Some-clause-falls : goal.returns-in-Some-clause-falls
returns-in-Some-clause-falls g c =
    ok_same c.run.result _ _ (λ step h before less. h before (omega (arith, less)) (ends_less (Cleanup (c.args.next + 1) c.args.ending) c.args.self.now.settling before less)) c.run.ensures.falls

pub overflow_add-task : goal.overflow_add-task
overflow_add-task g c =
    let small = rw c.in-Some.is at c.in_ok-found.ensures.small in
    omega (arith, small)

pub returns-in_err-found-clause-most : goal.returns-in_err-found-clause-most
returns-in_err-found-clause-most g c = wants c.from_residual.result _ (λ inside.
    let names = names_of c.args.natives.now in
    let old = c.args.self.now in
    let bp = old.blueprint.value in
    let m = old.moment in
    let q = old.settling.questions in
    none_within names old old inside c.args.steps.now _ c.requires.1 refl (cleanups_grow c.made_grows.ensures names bp m (drop c.args.next old.cleanups) c.args.ending (interp_state old) (account_of c.args.budget q inside) []))

pub returns-in-Some-clause-most : goal.returns-in-Some-clause-most
returns-in-Some-clause-most g c =
    let names = names_of c.args.natives.now in
    let old = c.args.self.now in
    let bp = old.blueprint.value in
    let m = old.moment in
    let q = old.settling.questions in
    let here = rw c.in-Some.is at c.in_ok-found.ensures.here in
    err_same c.run.result _ _
    (λ h inside. subst (IsWithin (inside + interp_written names old) c.args.steps.now c.run.new.steps c.run.new.self)
    (sym (ap (λ (l : List (List ℕ)). cleanups_from names bp m l c.args.ending (interp_state old) (account_of c.args.budget q inside) []) here))
    (outset_within names (works.Script c.in-Some.script) (Cleanup (c.args.next + 1) c.args.ending) old c.run.new.self (record old.settling { run = c.set_out.new.self }) c.args.budget inside c.args.steps.now c.run.new.steps
    c.set_out.ensures.state refl refl (h inside)))
    c.run.ensures.most
