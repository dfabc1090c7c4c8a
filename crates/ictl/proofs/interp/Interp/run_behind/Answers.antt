use Rattle.std.proofs.Common.{sym, ap, ◌∙◌, arith, ◌+◌, Option, [], true, subst, ◌≡◌}
use Rattle.natives.specs.Names.{names_of}
use Rattle.ictl.specs.Interps.{ending_of, interp_state, IsWithin, interp_written}
use Rattle.ictl.specs.Falls.{first_number}
use Rattle.ictl.specs.Main.{full, traces_from, behind}
use Rattle.ictl.specs.declared.ending.Ending.{Ending}
use Rattle.ictl.specs.declared.interp.Interp.{Interp}
use Rattle.ictl.proofs.Interpreters.{moved_on, unless}
use Rattle.ictl.proofs.Beginnings.{behind_begins}
use Rattle.ictl.specs.declared.inner.InnerRun.{InnerRun}
use Rattle.cmd_table.specs.Commands.{Writes}
use Rattle.ictl.specs.Standing.{inner_written}
use Rattle.ictl.proofs.Withins.{within_from, moved_within, wants}
use Rattle.ictl.proofs.interp.Interp.run_behind.Goals as goal

pub trace-requires : goal.trace-requires
trace-requires g c = (omega arith, c.requires.0)

pub moves-requires : goal.moves-requires
moves-requires g c = c.in_ok-step.ensures.next

pub returns-clause-next : goal.returns-clause-next
returns-clause-next g c = c.in_ok-next.ensures.next

pub returns-clause-falls : goal.returns-clause-falls
returns-clause-falls g c = c.in_ok-next.ensures.falls first_number (c.in_ok-step.ensures.falls first_number (omega arith))

pub returns-clause-stands : goal.returns-clause-stands
returns-clause-stands g c = λ request sound visit inside. unless c.in_ok-next.next _ (λ further.
    let names = names_of c.args.natives.now in
    let old = c.args.self.now in
    let between : Interp = record old { settling = record old.settling { questions = 1800000 } } in
    sym (moved_on names c.in_ok-step.step c.in_ok-next.next between c.trace.new.self c.moves.new.self inside c.args.steps.now c.trace.new.steps c.moves.new.steps further _
    c.trace.ensures.counts c.moves.ensures.counts (c.in_ok-step.ensures.gives inside further) (λ n. c.in_ok-next.ensures.gives n further)
    ∙ ap (λ (e : Ending). traces_from names old.blueprint.value old.moment old.visit.trace old.cleanups e (interp_state old) (full inside) further) c.ending_now-ending.ensures
    ∙ behind_begins names old request (ending_of old.task) inside further sound visit))

pub returns-in_err-step-clause-most : goal.returns-in_err-step-clause-most
returns-in_err-step-clause-most g c = wants c.from_residual.result _ (λ request sound visit inside.
    let names = names_of c.args.natives.now in
    let old = c.args.self.now in
    let between : Interp = record old { settling = record old.settling { questions = 1800000 } } in
    let none : inner_written names old.blueprint.value old.settling.inner ≡ 0 = ap (λ (i : Option InnerRun). inner_written names old.blueprint.value i) c.requires.0 in
    let begins = ap (λ (e : Ending). traces_from names old.blueprint.value old.moment old.visit.trace old.cleanups e (interp_state old) (full inside) []) c.ending_now-ending.ensures
    ∙ behind_begins names old request (ending_of old.task) inside [] sound visit in
    within_from (inside + Writes (interp_state old).made) (inside + interp_written names between) c.args.steps.now c.args.steps.now c.trace.new.steps c.trace.new.self _ (omega (arith, none))
    (subst (IsWithin (inside + interp_written names between) c.args.steps.now c.trace.new.steps c.trace.new.self) begins (c.in_err-step.ensures.most inside)))

pub returns-in_err-next-clause-most : goal.returns-in_err-next-clause-most
returns-in_err-next-clause-most g c = wants c.from_residual-in_err-next.result _ (λ request sound visit inside.
    let names = names_of c.args.natives.now in
    let old = c.args.self.now in
    let between : Interp = record old { settling = record old.settling { questions = 1800000 } } in
    let none : inner_written names old.blueprint.value old.settling.inner ≡ 0 = ap (λ (i : Option InnerRun). inner_written names old.blueprint.value i) c.requires.0 in
    let begins = ap (λ (e : Ending). traces_from names old.blueprint.value old.moment old.visit.trace old.cleanups e (interp_state old) (full inside) []) c.ending_now-ending.ensures
    ∙ behind_begins names old request (ending_of old.task) inside [] sound visit in
    within_from (inside + Writes (interp_state old).made) (inside + interp_written names between) c.args.steps.now c.args.steps.now c.moves.new.steps c.moves.new.self (behind names old.blueprint.value old.moment true request (ending_of old.task) (interp_state old) inside []) (omega (arith, none))
    (moved_within names c.in_ok-step.step between c.trace.new.self c.moves.new.self inside c.args.steps.now c.trace.new.steps c.moves.new.steps (behind names old.blueprint.value old.moment true request (ending_of old.task) (interp_state old) inside []) c.trace.ensures.counts (c.in_ok-step.ensures.gives inside [] ∙ begins) (λ n. c.in_err-next.ensures.most n)))
