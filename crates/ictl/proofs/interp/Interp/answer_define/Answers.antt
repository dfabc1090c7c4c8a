use Rattle.std.proofs.Common.{◌≡◌, ℕ, ◌+◌, refl, sym, subst, ap, ◌∙◌, [], ◌∷◌}
use Rattle.natives.specs.Names.{names_of}
use Rattle.cmd_table.specs.Commands.{Writes}
use Rattle.ictl.specs.Falls.{TaskAsks}
use Rattle.ictl.specs.declared.task.Task.{Task}
use Rattle.ictl.specs.declared.task.Task.TheVariants.{Over}
use Rattle.ictl.specs.declared.interp.Interp.{Interp}
use Rattle.ictl.proofs.Overs.{run_same, run_holds, define_answered, define_less}
use Rattle.ictl.specs.Interps.{IsWithin, asking_gives, interp_written}
use Rattle.ictl.proofs.Withins.{define_within, within_as, wants}
use Rattle.ictl.proofs.interp.Interp.answer_define.Goals as goal

pub answer-requires : goal.answer-requires
answer-requires g c = (subst (λ (t : Task). TaskAsks t c.args.self.now.settling) (sym c.replace-task.ensures.value ∙ c.in-Define.is) c.requires.asking).0

pub defined-requires-clause-inner : goal.defined-requires-clause-inner
defined-requires-clause-inner g c = (subst (λ (t : Task). TaskAsks t c.args.self.now.settling) (sym c.replace-task.ensures.value ∙ c.in-Define.is) c.requires.asking).1

pub returns-clause-gives : goal.returns-clause-gives
returns-clause-gives g c = λ question inside further.
    let names = names_of c.args.natives.now in
    let old = c.args.self.now in
    define_answered names question c.defined.result c.in_ok-stop.stop c.in-Define.defining c.answer.new.self c.answer.new.run Over old c.defined.new.self inside c.args.answer further
    (sym c.replace-task.ensures.value ∙ c.in-Define.is) (c.defined.ensures.gives names inside further) (c.in_ok-stop.ensures.gives old.blueprint.value old.moment question further)

pub returns-clause-steps : goal.returns-clause-steps
returns-clause-steps g c =
    let old = c.args.self.now in
    subst (λ (i : Interp). c.answer.new.steps + Writes old.settling.run.engine.made ≡ c.args.steps.now + Writes i.settling.run.engine.made) (sym c.defined.ensures.task.1) c.answer.ensures.counts

pub returns-clause-inner : goal.returns-clause-inner
returns-clause-inner g c = ap (λ (i : Interp). i.settling.inner) c.defined.ensures.task.1

pub returns-clause-same : goal.returns-clause-same
returns-clause-same g c = run_same c.defined.new.self c.args.self.now c.answer.new.run c.defined.ensures.task.0 c.defined.ensures.task.1

pub returns-clause-holds : goal.returns-clause-holds
returns-clause-holds g c = run_holds c.defined.new.self c.args.self.now c.answer.new.run c.defined.ensures.task.0 c.defined.ensures.task.1 c.answer.ensures.lasts

pub returns-clause-falls : goal.returns-clause-falls
returns-clause-falls g c =
    define_less c.defined.result c.in_ok-stop.stop c.in-Define.defining c.answer.new.self c.args.self.now c.defined.new.self (sym c.replace-task.ensures.value ∙ c.in-Define.is) c.in_ok-stop.ensures.falls c.defined.ensures.falls

pub returns-in_err-stop-clause-most : goal.returns-in_err-stop-clause-most
returns-in_err-stop-clause-most g c = wants c.from_residual.result _ (λ question inside.
    let names = names_of c.args.natives.now in
    let old = c.args.self.now in
    let is = sym c.replace-task.ensures.value ∙ c.in-Define.is in
    let none = (subst (λ (t : Task). TaskAsks t old.settling) is c.requires.asking).1 in
    within_as _ _ (ap (λ (t : Task). asking_gives names question t inside old (c.args.answer ∷ [])) (sym is))
    (define_within names old _ question c.in-Define.defining inside c.args.steps.now c.answer.new.steps (c.args.answer ∷ []) none c.answer.ensures.counts (c.in_err-stop.ensures.most old.blueprint.value old.moment question)))
