use Rattle.natives.specs.Names.{names_of}
use Rattle.ictl.proofs.Interpreters.{answered_so, answered_or, stands_on, ok_both}
use Rattle.ictl.proofs.Resets.{sound_on, asking_runs}
use Rattle.std.proofs.Common.{[]}
use Rattle.ictl.proofs.Withins.{either, err_same, out_within, out_stands}
use Rattle.ictl.proofs.interp.Interp.resume.Goals as goal

pub returns-clause-step : goal.returns-clause-step
returns-clause-step g c = answered_so c.answered.result c.next_of.result _ c.next_of.ensures c.answered.ensures.step

pub returns-clause-stands : goal.returns-clause-stands
returns-clause-stands g c = stands_on (names_of c.args.natives.now) c.next_of.result _ c.answered.new.self c.args.self.now c.args.answer (answered_so c.answered.result c.next_of.result _ c.next_of.ensures c.answered.ensures.step)

pub returns-clause-sound : goal.returns-clause-sound
returns-clause-sound g c = λ names sound. sound_on names c.answered.new.self c.args.self.now (asking_runs c.args.self.now c.requires) c.answered.ensures.same c.answered.ensures.holds sound

pub returns-clause-next : goal.returns-clause-next
returns-clause-next g c = out_stands c.answered.result c.next_of.result c.answered.new.self c.next_of.ensures c.answered.ensures.next

pub returns-clause-falls : goal.returns-clause-falls
returns-clause-falls g c = answered_or c.answered.result c.next_of.result _ tt c.next_of.ensures c.answered.ensures.falls

pub returns-clause-most : goal.returns-clause-most
returns-clause-most g c = λ question inside.
    let names = names_of c.args.natives.now in
    let old = c.args.self.now in
    let new = c.answered.new.self in
    either c.answered.result _ (err_same c.answered.result _ _ (λ h. h question inside) c.answered.ensures.most)
    (ok_both c.answered.result _ _ _ (λ next step out. out_within names next old new inside c.args.steps.now c.answered.new.steps _ c.answered.ensures.counts out (step question inside [])) c.answered.ensures.step c.answered.ensures.next)
