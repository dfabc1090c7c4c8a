use Rattle.std.proofs.Common.{◌≡◌, ℕ, List, Option, sym, ap, ◌∙◌, refl, arith, ◌+◌, [], subst}
use Rattle.natives.specs.Names.{names_of}
use Rattle.ictl.specs.Settle.{account_of}
use Rattle.ictl.specs.Main.{filters_from, unauthorised, serve}
use Rattle.ictl.specs.Interps.{interp_state, IsWithin, interp_written}
use Rattle.ictl.proofs.Interpreters.{lowers_more, ok_both, ok_same, stops_lower, write_falls, write_stands}
use Rattle.ictl.proofs.Withins.{err_same, none_within, wants}
use Rattle.ictl.proofs.Growing.{visited_grows}
use Rattle.ictl.proofs.interp.Interp.preauth.Goals as goal

pub returns-in-None-clause-gives : goal.returns-in-None-clause-gives
returns-in-None-clause-gives g c =
    let names = names_of c.args.natives.now in
    let old = c.args.self.now in
    let bp = old.blueprint.value in
    let m = old.moment in
    let q = old.settling.questions in
    let here = rw c.in-None.is at c.in_ok-found.ensures.here in
    ok_same c.authorise.result _ _ (λ step h inside further. h inside further ∙ sym (ap (λ (l : List (List (List ℕ))). filters_from names bp m l (unauthorised names bp m old.visit) (interp_state old) (account_of c.args.budget q inside) further) here)) c.authorise.ensures.gives

pub returns-in-Some-clause-gives : goal.returns-in-Some-clause-gives
returns-in-Some-clause-gives g c =
    let names = names_of c.args.natives.now in
    let old = c.args.self.now in
    let bp = old.blueprint.value in
    let m = old.moment in
    let q = old.settling.questions in
    let here = rw c.in-Some.is at c.in_ok-found.ensures.here in
    ok_same c.call.result _ _ (λ step h inside further. h inside further ∙ sym (ap (λ (l : List (List (List ℕ))). filters_from names bp m l (unauthorised names bp m old.visit) (interp_state old) (account_of c.args.budget q inside) further) here)) c.call.ensures.gives

pub returns-in-None-clause-lowers : goal.returns-in-None-clause-lowers
returns-in-None-clause-lowers g c = ok_same c.authorise.result _ _ (λ step h. lowers_more step c.authorise.new.self _ _ (omega arith) h) c.authorise.ensures.lowers

pub returns-in-Some-clause-lowers : goal.returns-in-Some-clause-lowers
returns-in-Some-clause-lowers g c =
    let small = rw c.in-Some.is at c.in_ok-found.ensures.small in
    ok_same c.call.result _ _ (λ step h. h _ (omega (arith, small))) c.call.ensures.lowers

pub overflow_add-next : goal.overflow_add-next
overflow_add-next g c =
    let small = rw c.in-Some.is at c.in_ok-found.ensures.small in
    omega (arith, small)

pub returns-in-None-clause-most : goal.returns-in-None-clause-most
returns-in-None-clause-most g c =
    let names = names_of c.args.natives.now in
    let old = c.args.self.now in
    let bp = old.blueprint.value in
    let m = old.moment in
    let q = old.settling.questions in
    let here = rw c.in-None.is at c.in_ok-found.ensures.here in
    err_same c.authorise.result _ _
    (λ h inside. subst (IsWithin (inside + interp_written names old) c.args.steps.now c.authorise.new.steps c.authorise.new.self) (sym (ap (λ (l : List (List (List ℕ))). filters_from names bp m l (unauthorised names bp m old.visit) (interp_state old) (account_of c.args.budget q inside) []) here)) (h inside))
    c.authorise.ensures.most

pub returns-in-Some-clause-most : goal.returns-in-Some-clause-most
returns-in-Some-clause-most g c =
    let names = names_of c.args.natives.now in
    let old = c.args.self.now in
    let bp = old.blueprint.value in
    let m = old.moment in
    let q = old.settling.questions in
    let here = rw c.in-Some.is at c.in_ok-found.ensures.here in
    err_same c.call.result _ _
    (λ h inside. subst (IsWithin (inside + interp_written names old) c.args.steps.now c.call.new.steps c.call.new.self) (sym (ap (λ (l : List (List (List ℕ))). filters_from names bp m l (unauthorised names bp m old.visit) (interp_state old) (account_of c.args.budget q inside) []) here)) (h inside))
    c.call.ensures.most

pub returns-in_err-found-clause-most : goal.returns-in_err-found-clause-most
returns-in_err-found-clause-most g c = wants c.from_residual.result _ (λ inside.
    let names = names_of c.args.natives.now in
    let old = c.args.self.now in
    let bp = old.blueprint.value in
    let m = old.moment in
    let q = old.settling.questions in
    none_within names old old inside c.args.steps.now _ c.requires.1 refl (visited_grows c.made_grows.ensures names old c.args.next (interp_state old) (account_of c.args.budget q inside) []))
