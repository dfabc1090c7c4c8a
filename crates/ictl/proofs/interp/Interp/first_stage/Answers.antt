use Rattle.std.proofs.Common.{◌∙◌, ◌+◌, [], subst}
use Rattle.natives.specs.Names.{names_of}
use Rattle.ictl.specs.Settle.{account_of}
use Rattle.ictl.specs.Interps.{interp_state, IsWithin, interp_written}
use Rattle.ictl.proofs.Interpreters.{ok_same}
use Rattle.ictl.proofs.Visiting.{plainly_visited}
use Rattle.ictl.proofs.Withins.{err_same}
use Rattle.ictl.proofs.interp.Interp.first_stage.Goals as goal

pub returns-then-is_plain-clause-gives : goal.returns-then-is_plain-clause-gives
returns-then-is_plain-clause-gives g c =
    let names = names_of c.args.natives.now in
    let old = c.args.self.now in
    let plain = c.if-is_plain.true in
    ok_same c.serve.result _ _
    (λ step h inside further. h inside further
    ∙ plainly_visited names old.blueprint.value old.moment old.visit (interp_state old) (account_of c.args.budget old.settling.questions inside) further (c.is_plain.ensures.preauth plain)
    (c.is_plain.ensures.authorisation plain) (c.is_plain.ensures.postauth plain))
    c.serve.ensures.gives

pub returns-then-is_plain-clause-most : goal.returns-then-is_plain-clause-most
returns-then-is_plain-clause-most g c =
    let names = names_of c.args.natives.now in
    let old = c.args.self.now in
    let plain = c.if-is_plain.true in
    err_same c.serve.result _ _
    (λ h inside. subst (IsWithin (inside + interp_written names old) c.args.steps.now c.serve.new.steps c.serve.new.self)
    (plainly_visited names old.blueprint.value old.moment old.visit (interp_state old) (account_of c.args.budget old.settling.questions inside) [] (c.is_plain.ensures.preauth plain)
    (c.is_plain.ensures.authorisation plain) (c.is_plain.ensures.postauth plain)) (h inside))
    c.serve.ensures.most

pub returns-clause-gives : goal.returns-clause-gives
returns-clause-gives g c = c.preauth.ensures.gives

pub returns-clause-most : goal.returns-clause-most
returns-clause-most g c = c.preauth.ensures.most
