use Rattle.std.proofs.Common.{arith, ◌≡◌, ℕ, List, Option, sym, ap, ◌∙◌, ◌+◌, [], refl, subst}
use Rattle.natives.specs.Names.{names_of}
use Rattle.ictl.specs.Settle.{account_of}
use Rattle.ictl.specs.Main.{authorise, authorised}
use Rattle.ictl.specs.Interps.{interp_state, IsWithin, interp_written}
use Rattle.ictl.proofs.Interpreters.{lowers_more, ok_both, ok_same, stops_lower, write_falls, write_stands}
use Rattle.ictl.proofs.Withins.{err_same, none_within, wants}
use Rattle.ictl.proofs.Growing.{unauthorised_grows}
use Rattle.ictl.proofs.interp.Interp.authorise.Goals as goal

pub returns-in-None-clause-gives : goal.returns-in-None-clause-gives
returns-in-None-clause-gives g c =
    let names = names_of c.args.natives.now in
    let old = c.args.self.now in
    let bp = old.blueprint.value in
    let m = old.moment in
    let q = old.settling.questions in
    ok_same c.postauth.result _ _
    (λ step h inside further. h inside further
    ∙ ap (λ (o : Option (List (List ℕ))). authorise names bp m o (authorised names bp m old.visit) (interp_state old) (account_of c.args.budget q inside) further) (sym c.in-None.is ∙ c.in_ok-call.ensures))
    c.postauth.ensures.gives

pub returns-in-Some-clause-gives : goal.returns-in-Some-clause-gives
returns-in-Some-clause-gives g c =
    let names = names_of c.args.natives.now in
    let old = c.args.self.now in
    let bp = old.blueprint.value in
    let m = old.moment in
    let q = old.settling.questions in
    ok_same c.call.result _ _
    (λ step h inside further. h inside further
    ∙ ap (λ (o : Option (List (List ℕ))). authorise names bp m o (authorised names bp m old.visit) (interp_state old) (account_of c.args.budget q inside) further) (sym c.in-Some.is ∙ c.in_ok-call.ensures))
    c.call.ensures.gives

pub returns-in-None-clause-lowers : goal.returns-in-None-clause-lowers
returns-in-None-clause-lowers g c = ok_same c.postauth.result _ _ (λ step h. lowers_more step c.postauth.new.self _ _ (omega arith) h) c.postauth.ensures.lowers

pub returns-in-Some-clause-lowers : goal.returns-in-Some-clause-lowers
returns-in-Some-clause-lowers g c = ok_same c.call.result _ _ (λ step h. h _ (omega arith)) c.call.ensures.lowers

pub returns-in-None-clause-most : goal.returns-in-None-clause-most
returns-in-None-clause-most g c =
    let names = names_of c.args.natives.now in
    let old = c.args.self.now in
    let bp = old.blueprint.value in
    let m = old.moment in
    let q = old.settling.questions in
    err_same c.postauth.result _ _
    (λ h inside. subst (IsWithin (inside + interp_written names old) c.args.steps.now c.postauth.new.steps c.postauth.new.self) (ap (λ (o : Option (List (List ℕ))). authorise names bp m o (authorised names bp m old.visit) (interp_state old) (account_of c.args.budget q inside) []) (sym c.in-None.is ∙ c.in_ok-call.ensures)) (h inside))
    c.postauth.ensures.most

pub returns-in-Some-clause-most : goal.returns-in-Some-clause-most
returns-in-Some-clause-most g c =
    let names = names_of c.args.natives.now in
    let old = c.args.self.now in
    let bp = old.blueprint.value in
    let m = old.moment in
    let q = old.settling.questions in
    err_same c.call.result _ _
    (λ h inside. subst (IsWithin (inside + interp_written names old) c.args.steps.now c.call.new.steps c.call.new.self) (ap (λ (o : Option (List (List ℕ))). authorise names bp m o (authorised names bp m old.visit) (interp_state old) (account_of c.args.budget q inside) []) (sym c.in-Some.is ∙ c.in_ok-call.ensures)) (h inside))
    c.call.ensures.most

pub returns-in_err-call-clause-most : goal.returns-in_err-call-clause-most
returns-in_err-call-clause-most g c = wants c.from_residual.result _ (λ inside.
    let names = names_of c.args.natives.now in
    let old = c.args.self.now in
    let bp = old.blueprint.value in
    let m = old.moment in
    let q = old.settling.questions in
    none_within names old old inside c.args.steps.now _ c.requires.1 refl (unauthorised_grows c.made_grows.ensures names old (interp_state old) (account_of c.args.budget q inside) []))
