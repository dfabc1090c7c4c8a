use Rattle.std.proofs.Common.{refl, sym, ◌∙◌, arith, ◌+◌, [], subst}
use Rattle.natives.specs.Names.{names_of}
use Rattle.tcl_eval.specs.declared.outcome.Work.TheVariants as works
use Rattle.ictl.specs.Interps.{interp_state, interp_written, IsWithin}
use Rattle.ictl.specs.Falls.{first_number}
use Rattle.ictl.specs.declared.task.Task.TheVariants as tasks
use Rattle.ictl.proofs.Settlings.{both_counted}
use Rattle.ictl.proofs.Interpreters.{moved_on, from_none, from_outset, outset_counts}
use Rattle.ictl.proofs.Beginnings.{script_begins}
use Rattle.ictl.proofs.Withins.{outset_within, within_from, moved_within, wants}
use Rattle.ictl.proofs.interp.Interp.run_script.Goals as goal

pub run-requires-clause-ready : goal.run-requires-clause-ready
run-requires-clause-ready g c = (omega (arith, c.requires.questions), c.requires.inner)

pub moves-requires : goal.moves-requires
moves-requires g c = c.in_ok-step.ensures.next

pub returns-clause-next : goal.returns-clause-next
returns-clause-next g c = c.in_ok-next.ensures.next

pub returns-clause-stands : goal.returns-clause-stands
returns-clause-stands g c = λ further.
    let names = names_of c.args.natives.now in
    let old = c.args.self.now in
    let out = record old.settling { run = c.set_out.new.self } in
    sym (from_none names c.in_ok-next.next c.moves.new.self _ further _
    (moved_on names c.in_ok-step.step c.in_ok-next.next old c.run.new.self c.moves.new.self 0 c.args.steps.now c.run.new.steps c.moves.new.steps further _
    (outset_counts names old c.run.new.self out c.run.new.steps c.args.steps.now c.set_out.ensures.state refl c.run.ensures.counts)
    c.moves.ensures.counts
    (from_outset names (works.Script c.args.script) tasks.Script old c.run.new.self out c.in_ok-step.step 200000 0 c.run.new.steps c.args.steps.now further c.set_out.ensures.state refl refl (c.in_ok-step.ensures.gives 0 further))
    (λ n. c.in_ok-next.ensures.gives n further))
    ∙ script_begins names old.blueprint.value c.args.script old.moment old.settling.questions (interp_state old) further c.requires.questions c.requires.state)

pub returns-clause-counts : goal.returns-clause-counts
returns-clause-counts g c =
    let names = names_of c.args.natives.now in
    let old = c.args.self.now in
    let out = record old.settling { run = c.set_out.new.self } in
    both_counted c.args.steps.now c.run.new.steps c.moves.new.steps (interp_written names old) (interp_written names c.run.new.self) (interp_written names c.moves.new.self)
    (outset_counts names old c.run.new.self out c.run.new.steps c.args.steps.now c.set_out.ensures.state refl c.run.ensures.counts) c.moves.ensures.counts

pub returns-clause-falls : goal.returns-clause-falls
returns-clause-falls g c = c.in_ok-next.ensures.falls first_number (c.in_ok-step.ensures.falls first_number (omega (arith, c.requires.questions)) tt)

pub returns-in_err-step-clause-most : goal.returns-in_err-step-clause-most
returns-in_err-step-clause-most g c =
    wants c.from_residual.result _ (let names = names_of c.args.natives.now in
    let old = c.args.self.now in
    let out = record old.settling { run = c.set_out.new.self } in
    within_from 0 (0 + interp_written names old) c.args.steps.now c.args.steps.now c.run.new.steps c.run.new.self _ (omega arith)
    (subst (IsWithin (0 + interp_written names old) c.args.steps.now c.run.new.steps c.run.new.self)
    (script_begins names old.blueprint.value c.args.script old.moment old.settling.questions (interp_state old) [] c.requires.questions c.requires.state)
    (outset_within names (works.Script c.args.script) tasks.Script old c.run.new.self out 200000 0 c.args.steps.now c.run.new.steps c.set_out.ensures.state refl refl (c.in_err-step.ensures.most 0))))

pub returns-in_err-next-clause-most : goal.returns-in_err-next-clause-most
returns-in_err-next-clause-most g c =
    wants c.from_residual-in_err-next.result _ (let names = names_of c.args.natives.now in
    let old = c.args.self.now in
    let out = record old.settling { run = c.set_out.new.self } in
    within_from 0 (0 + interp_written names old) c.args.steps.now c.args.steps.now c.moves.new.steps c.moves.new.self _ (omega arith)
    (moved_within names c.in_ok-step.step old c.run.new.self c.moves.new.self 0 c.args.steps.now c.run.new.steps c.moves.new.steps _
    (outset_counts names old c.run.new.self out c.run.new.steps c.args.steps.now c.set_out.ensures.state refl c.run.ensures.counts)
    (from_outset names (works.Script c.args.script) tasks.Script old c.run.new.self out c.in_ok-step.step 200000 0 c.run.new.steps c.args.steps.now [] c.set_out.ensures.state refl refl (c.in_ok-step.ensures.gives 0 [])
    ∙ script_begins names old.blueprint.value c.args.script old.moment old.settling.questions (interp_state old) [] c.requires.questions c.requires.state)
    (λ n. c.in_err-next.ensures.most n)))
