use Rattle.std.proofs.Common.{◌≡◌, ◌+◌, sym, subst, refl, ap, ◌∙◌}
use Rattle.natives.specs.Names.{names_of}
use Rattle.server_host.specs.declared.edition.Edition.{Edition}
use Rattle.cmd_table.specs.Commands.{Writes}
use Rattle.ictl.specs.Main.{Define}
use Rattle.ictl.specs.Interps.{IsSound, interp_state}
use Rattle.ictl.specs.declared.interp.Interp.{Interp}
use Rattle.ictl.proofs.Interpreters.{answered_or}
use Rattle.ictl.proofs.Resets.{spared_new, holds_from, sound_from, holds_same}
use Rattle.ictl.proofs.Starts.{defined, defined_most}
use Rattle.ictl.proofs.Withins.{begun_none, new_writes, out_stands}
use Rattle.ictl.proofs.interp.Interp.start_define.Goals as goal

pub begin_define-requires : goal.begin_define-requires
begin_define-requires g c =
    spared_new (names_of c.args.natives.now) c.take_spare.new.self c.args.self.now c.take_spare.ensures.rest (rw c.in-Ok.is at c.take_spare.ensures.ok) c.requires

pub returns-in-Ok-clause-stands : goal.returns-in-Ok-clause-stands
returns-in-Ok-clause-stands g c =
    let names = names_of c.args.natives.now in
    defined names c.begin_define.result c.next_of.result (λ (b : Edition). Define names b c.args.script.now c.args.moment) c.begin_define.new.self c.take_spare.new.self c.args.self.now c.take_spare.ensures.rest c.next_of.ensures c.begin_define.ensures.stands

pub returns-in-Ok-clause-steps : goal.returns-in-Ok-clause-steps
returns-in-Ok-clause-steps g c =
    subst (λ (i : Interp). c.begin_define.new.steps + Writes i.settling.run.engine.made ≡ c.args.steps.now + Writes c.begin_define.new.self.settling.run.engine.made) c.take_spare.ensures.rest c.begin_define.ensures.steps

pub returns-in-Ok-clause-holds : goal.returns-in-Ok-clause-holds
returns-in-Ok-clause-holds g c = holds_from c.begin_define.new.self c.take_spare.new.self c.args.self.now c.take_spare.ensures.rest c.begin_define.ensures.holds

pub returns-in-Ok-clause-sound : goal.returns-in-Ok-clause-sound
returns-in-Ok-clause-sound g c = λ names sound.
    sound_from names c.begin_define.new.self c.take_spare.new.self c.args.self.now c.take_spare.ensures.rest (rw c.in-Ok.is at c.take_spare.ensures.ok) c.begin_define.ensures.spare c.begin_define.ensures.holds sound

pub returns-in-Ok-clause-next : goal.returns-in-Ok-clause-next
returns-in-Ok-clause-next g c = out_stands c.begin_define.result c.next_of.result c.begin_define.new.self c.next_of.ensures c.begin_define.ensures.next

pub returns-in-Ok-clause-falls : goal.returns-in-Ok-clause-falls
returns-in-Ok-clause-falls g c = answered_or c.begin_define.result c.next_of.result _ tt c.next_of.ensures c.begin_define.ensures.falls

pub returns-in-Err-clause-holds : goal.returns-in-Err-clause-holds
returns-in-Err-clause-holds g c = holds_same c.take_spare.new.self c.args.self.now (rw c.in-Err.is at c.take_spare.ensures.err)

pub returns-in-Err-clause-sound : goal.returns-in-Err-clause-sound
returns-in-Err-clause-sound g c = λ names sound. subst (IsSound names) (sym (rw c.in-Err.is at c.take_spare.ensures.err)) sound

pub returns-in-Err-clause-steps : goal.returns-in-Err-clause-steps
returns-in-Err-clause-steps g c =
    subst (λ (i : Interp). c.args.steps.now + Writes c.args.self.now.settling.run.engine.made ≡ c.args.steps.now + Writes i.settling.run.engine.made) (sym (rw c.in-Err.is at c.take_spare.ensures.err)) refl

pub returns-in-Ok-clause-most : goal.returns-in-Ok-clause-most
returns-in-Ok-clause-most g c =
    let names = names_of c.args.natives.now in
    defined_most names c.begin_define.result (λ (b : Edition). Define names b c.args.script.now c.args.moment) c.begin_define.new.self c.take_spare.new.self c.args.self.now c.args.steps.now c.begin_define.new.steps c.take_spare.ensures.rest
    c.begin_define.ensures.steps c.begin_define.ensures.most c.begin_define.ensures.stands c.begin_define.ensures.next

pub returns-in-Err-clause-most : goal.returns-in-Err-clause-most
returns-in-Err-clause-most g c =
    begun_none c.take_spare.new.self c.args.steps.now _
    (ap (λ (i : Interp). Writes (interp_state i).made) (rw c.in-Err.is at c.take_spare.ensures.err) ∙ new_writes (names_of c.args.natives.now) c.args.self.now c.requires)
