use Rattle.std.proofs.Common.{◌≡◌, ◌⊎◌, ⊎_elim, ℕ, List, Option, sym, ap, ◌∙◌, refl, arith, ◌+◌, [], subst}
use Rattle.natives.specs.Names.{names_of}
use Rattle.ictl.specs.declared.ending.Verdict.{Verdict}
use Rattle.ictl.specs.declared.ending.Verdict.TheVariants.{Goes, Returns, Fails}
use Rattle.std.proofs.Common.{drop}
use Rattle.ictl.specs.Main.{Stretch, traces_from, cleanups_from, trace_end}
use Rattle.ictl.specs.Settle.{account_of}
use Rattle.ictl.specs.Interps.{interp_state, IsWithin, interp_written}
use Rattle.ictl.proofs.Interpreters.{lowers_more, ok_both, ok_same, responded, stops_lower, write_falls, write_stands}
use Rattle.ictl.proofs.Withins.{err_same}
use Rattle.ictl.proofs.interp.Interp.end_trace.Goals as goal

-- where a trace filter didn't break, the next one is called
still_traced : (next behind : Stretch) (said : Verdict) → (said ≡ Goes) ⊎ ((said ≡ Returns) ⊎ (said ≡ Fails)) → next ≡ trace_end next behind said
still_traced next behind said =
    ⊎_elim (λ (e : said ≡ Goes). sym (ap (λ (v : Verdict). trace_end next behind v) e))
    (⊎_elim (λ (e : said ≡ Returns). sym (ap (λ (v : Verdict). trace_end next behind v) e)) (λ (e : said ≡ Fails). sym (ap (λ (v : Verdict). trace_end next behind v) e)))

pub returns-in-Breaks-clause-gives : goal.returns-in-Breaks-clause-gives
returns-in-Breaks-clause-gives g c =
    let names = names_of c.args.natives.now in
    let old = c.args.self.now in
    let bp = old.blueprint.value in
    let m = old.moment in
    let q = old.settling.questions in
    let b = old.settling.run.engine.budget in
    ok_same c.clean_up.result _ _ (λ step h inside further. h inside further ∙ ap (λ (n : ℕ). (cleanups_from names bp m old.cleanups c.args.ending) (interp_state old) (account_of n q inside) further) c.left-budget.ensures ∙ ap (λ (v : Verdict). trace_end (traces_from names bp m (drop c.args.next old.visit.trace) old.cleanups c.args.ending) (cleanups_from names bp m old.cleanups c.args.ending) v (interp_state old) (account_of b q inside) further) (sym c.in-Breaks.is ∙ c.verdict_of-said.ensures)) c.clean_up.ensures.gives

pub returns-in-Breaks-clause-lowers : goal.returns-in-Breaks-clause-lowers
returns-in-Breaks-clause-lowers g c = ok_same c.clean_up.result _ _ (λ step h. lowers_more step c.clean_up.new.self _ _ (omega arith) h) c.clean_up.ensures.lowers

pub returns-in-Breaks-clause-most : goal.returns-in-Breaks-clause-most
returns-in-Breaks-clause-most g c =
    let names = names_of c.args.natives.now in
    let old = c.args.self.now in
    let bp = old.blueprint.value in
    let m = old.moment in
    let q = old.settling.questions in
    let b = old.settling.run.engine.budget in
    err_same c.clean_up.result _ _
    (λ h inside. subst (IsWithin (inside + interp_written names old) c.args.steps.now c.clean_up.new.steps c.clean_up.new.self) (ap (λ (n : ℕ). (cleanups_from names bp m old.cleanups c.args.ending) (interp_state old) (account_of n q inside) []) c.left-budget.ensures ∙ ap (λ (v : Verdict). trace_end (traces_from names bp m (drop c.args.next old.visit.trace) old.cleanups c.args.ending) (cleanups_from names bp m old.cleanups c.args.ending) v (interp_state old) (account_of b q inside) []) (sym c.in-Breaks.is ∙ c.verdict_of-said.ensures)) (h inside))
    c.clean_up.ensures.most

pub returns-clause-gives : goal.returns-clause-gives
returns-clause-gives g c =
    let names = names_of c.args.natives.now in
    let old = c.args.self.now in
    let bp = old.blueprint.value in
    let m = old.moment in
    let q = old.settling.questions in
    let b = old.settling.run.engine.budget in
    let next = traces_from names bp m (drop c.args.next old.visit.trace) old.cleanups c.args.ending in
    let behind = cleanups_from names bp m old.cleanups c.args.ending in
    ok_same c.trace.result _ _ (λ step h inside further. h inside further ∙ ap (λ (n : ℕ). next (interp_state old) (account_of n q inside) further) c.left-budget.ensures ∙ ap (λ (way : Stretch). way (interp_state old) (account_of b q inside) further) (still_traced next behind c.verdict_of-said.result c.in-Goes.is) ∙ ap (λ (v : Verdict). trace_end next behind v (interp_state old) (account_of b q inside) further) c.verdict_of-said.ensures) c.trace.ensures.gives

pub returns-clause-most : goal.returns-clause-most
returns-clause-most g c =
    let names = names_of c.args.natives.now in
    let old = c.args.self.now in
    let bp = old.blueprint.value in
    let m = old.moment in
    let q = old.settling.questions in
    let b = old.settling.run.engine.budget in
    let next = traces_from names bp m (drop c.args.next old.visit.trace) old.cleanups c.args.ending in
    let behind = cleanups_from names bp m old.cleanups c.args.ending in
    err_same c.trace.result _ _
    (λ h inside. subst (IsWithin (inside + interp_written names old) c.args.steps.now c.trace.new.steps c.trace.new.self) (ap (λ (n : ℕ). next (interp_state old) (account_of n q inside) []) c.left-budget.ensures ∙ ap (λ (way : Stretch). way (interp_state old) (account_of b q inside) []) (still_traced next behind c.verdict_of-said.result c.in-Goes.is) ∙ ap (λ (v : Verdict). trace_end next behind v (interp_state old) (account_of b q inside) []) c.verdict_of-said.ensures) (h inside))
    c.trace.ensures.most
