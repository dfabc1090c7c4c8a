use Rattle.std.proofs.Common.{ℕ, ◌+◌, ◌-◌, ◌*◌, ◌<◌, ◌≤◌, [], sym, subst, ap, ◌∙◌, Some, arith}
use Rattle.natives.specs.Names.{names_of}
use Rattle.ictl.specs.Fresh.{build_steps}
use Rattle.ictl.specs.Settle.{Defined, account_of, behind_inner}
use Rattle.ictl.specs.Defines.{inner_run}
use Rattle.ictl.specs.Standing.{state_of, onward, written, inner_written}
use Rattle.ictl.specs.Steps.{step_gives}
use Rattle.ictl.specs.Falls.{per_question}
use Rattle.ictl.specs.Within.{defined_own, SettledWithin}
use Rattle.ictl.proofs.Withins.{begun_within, behind_writes, settled_from, wants}
use Rattle.ictl.proofs.Inners.{stop_less}
use Rattle.ictl.proofs.Settlings.{made_taken}
use Rattle.ictl.proofs.settling.Settling.enter.Goals as goal

pub returns-clause-gives : goal.returns-clause-gives
returns-clause-gives g c = λ asked inside further.
    let names = names_of c.args.natives.now in
    let bp = c.args.blueprint.now.value in
    let s = c.args.self.now in
    sym (ap (λ (n : ℕ). step_gives names bp c.args.moment c.in_ok-step.step c.behind.new.self n further)
    (made_taken inside c.args.steps.now c.begin.new.steps c.behind.new.steps (written names bp s) (inner_written names bp (Some c.in_ok-inner.inner)) (written names bp c.behind.new.self) c.in_ok-inner.ensures.counts))
    ∙ c.in_ok-step.ensures.gives asked inside further
    ∙ ap (λ (x : Defined). behind_inner (build_steps names bp.defs) x (state_of s.run) (account_of s.run.engine.budget s.questions inside) (onward names bp c.args.moment asked s)) (c.in_ok-inner.ensures.gives further)
    ∙ ap (λ (b : ℕ). behind_inner (build_steps names bp.defs) (inner_run names bp c.args.moment c.args.question.words b s.questions further) (state_of s.run) (account_of s.run.engine.budget s.questions inside) (onward names bp c.args.moment asked s)) c.left.ensures

pub returns-clause-falls : goal.returns-clause-falls
returns-clause-falls g c = λ before most.
    let q = c.args.self.now.questions in
    let fewer = c.in_ok-inner.ensures.questions in
    let least : per_question * q ≤ before = omega (arith, most) in
    let less : c.in_ok-inner.inner.defining.questions + 1 < before - (per_question * q + 4) = omega (arith, most, fewer) in
    c.in_ok-step.ensures.falls before least (stop_less c.in_ok-inner.stop c.in_ok-inner.inner.defining (before - (per_question * q + 4)) less)

pub returns-in_err-inner-clause-most : goal.returns-in_err-inner-clause-most
returns-in_err-inner-clause-most g c = wants c.from_residual.result _ (λ asked inside.
    let names = names_of c.args.natives.now in
    let bp = c.args.blueprint.now.value in
    let m = c.args.moment in
    let s = c.args.self.now in
    let x = inner_run names bp m c.args.question.words s.run.engine.budget s.questions [] in
    begun_within names bp s inside (build_steps names bp.defs) (defined_own x) c.args.steps.now c.begin.new.steps _ c.requires.inner
    (subst (λ (b : ℕ). c.begin.new.steps ≤ c.args.steps.now + (build_steps names bp.defs + defined_own (inner_run names bp m c.args.question.words b s.questions []))) c.left.ensures c.in_err-inner.ensures.most)
    (behind_writes c.made_grows_on.ensures names bp m asked s inside (build_steps names bp.defs) x))

pub returns-in_err-step-clause-most : goal.returns-in_err-step-clause-most
returns-in_err-step-clause-most g c = wants c.from_residual-in_err-step.result _ (λ asked inside.
    let names = names_of c.args.natives.now in
    let bp = c.args.blueprint.now.value in
    let m = c.args.moment in
    let s = c.args.self.now in
    let made = c.in_ok-inner.ensures.counts in
    let w = inside + (written names bp s + inner_written names bp (Some c.in_ok-inner.inner)) in
    settled_from (inside + written names bp s) w c.args.steps.now c.begin.new.steps c.behind.new.steps c.behind.new.self _ (omega (arith, made))
    (subst (SettledWithin w c.begin.new.steps c.behind.new.steps c.behind.new.self)
    (ap (λ (x : Defined). behind_inner (build_steps names bp.defs) x (state_of s.run) (account_of s.run.engine.budget s.questions inside) (onward names bp m asked s)) (c.in_ok-inner.ensures.gives [])
    ∙ ap (λ (b : ℕ). behind_inner (build_steps names bp.defs) (inner_run names bp m c.args.question.words b s.questions []) (state_of s.run) (account_of s.run.engine.budget s.questions inside) (onward names bp m asked s)) c.left.ensures)
    (c.in_err-step.ensures.most asked inside)))
