use Rattle.std.proofs.Common.{◌≤◌, ◌+◌, sym, subst, arith, [], ap, ◌∙◌}
use Rattle.natives.specs.Names.{names_of}
use Rattle.server_host.specs.declared.edition.Edition.{Edition}
use Rattle.ictl.specs.Main.{Script}
use Rattle.ictl.specs.Interps.{interp_written, IsSound, IsWithin, interp_state}
use Rattle.ictl.specs.declared.interp.Interp.{Interp}
use Rattle.ictl.proofs.Interpreters.{answered_or, ok_both}
use Rattle.ictl.proofs.Resets.{spared_new, holds_from, sound_from, holds_same}
use Rattle.ictl.proofs.Starts.{started}
use Rattle.cmd_table.specs.Commands.{Writes}
use Rattle.ictl.proofs.Withins.{began_within, begun_none, either, new_writes, out_stands}
use Rattle.ictl.proofs.interp.Interp.start_script.Goals as goal

pub begin_script-requires : goal.begin_script-requires
begin_script-requires g c =
    spared_new (names_of c.args.natives.now) c.take_spare.new.self c.args.self.now c.take_spare.ensures.rest (rw c.in-Ok.is at c.take_spare.ensures.ok) c.requires

pub returns-in-Ok-clause-stands : goal.returns-in-Ok-clause-stands
returns-in-Ok-clause-stands g c =
    let names = names_of c.args.natives.now in
    started names c.begin_script.result c.next_of.result (λ (b : Edition). Script names b c.args.script.now c.args.moment) c.begin_script.new.self c.take_spare.new.self c.args.self.now c.begin_script.new.steps c.args.steps.now c.take_spare.ensures.rest c.next_of.ensures c.begin_script.ensures.stands

pub returns-in-Ok-clause-counts : goal.returns-in-Ok-clause-counts
returns-in-Ok-clause-counts g c =
    let names = names_of c.args.natives.now in
    subst (λ (i : Interp). c.args.steps.now + interp_written names c.begin_script.new.self ≤ c.begin_script.new.steps + interp_written names i) c.take_spare.ensures.rest c.begin_script.ensures.counts

pub returns-in-Ok-clause-holds : goal.returns-in-Ok-clause-holds
returns-in-Ok-clause-holds g c = holds_from c.begin_script.new.self c.take_spare.new.self c.args.self.now c.take_spare.ensures.rest c.begin_script.ensures.holds

pub returns-in-Ok-clause-sound : goal.returns-in-Ok-clause-sound
returns-in-Ok-clause-sound g c = λ names sound.
    sound_from names c.begin_script.new.self c.take_spare.new.self c.args.self.now c.take_spare.ensures.rest (rw c.in-Ok.is at c.take_spare.ensures.ok) c.begin_script.ensures.spare c.begin_script.ensures.holds sound

pub returns-in-Ok-clause-next : goal.returns-in-Ok-clause-next
returns-in-Ok-clause-next g c = out_stands c.begin_script.result c.next_of.result c.begin_script.new.self c.next_of.ensures c.begin_script.ensures.next

pub returns-in-Ok-clause-falls : goal.returns-in-Ok-clause-falls
returns-in-Ok-clause-falls g c = answered_or c.begin_script.result c.next_of.result _ tt c.next_of.ensures c.begin_script.ensures.falls

pub returns-in-Err-clause-holds : goal.returns-in-Err-clause-holds
returns-in-Err-clause-holds g c = holds_same c.take_spare.new.self c.args.self.now (rw c.in-Err.is at c.take_spare.ensures.err)

pub returns-in-Err-clause-sound : goal.returns-in-Err-clause-sound
returns-in-Err-clause-sound g c = λ names sound. subst (IsSound names) (sym (rw c.in-Err.is at c.take_spare.ensures.err)) sound

pub returns-in-Err-clause-counts : goal.returns-in-Err-clause-counts
returns-in-Err-clause-counts g c =
    let names = names_of c.args.natives.now in
    subst (λ (i : Interp). c.args.steps.now + interp_written names i ≤ c.args.steps.now + interp_written names c.args.self.now) (sym (rw c.in-Err.is at c.take_spare.ensures.err)) (omega arith)

pub returns-in-Ok-clause-most : goal.returns-in-Ok-clause-most
returns-in-Ok-clause-most g c =
    let names = names_of c.args.natives.now in
    subst (λ (i : Interp). IsWithin 0 c.args.steps.now c.begin_script.new.steps c.begin_script.new.self (Script names i.blueprint.value c.args.script.now c.args.moment [])) c.take_spare.ensures.rest
    (either c.begin_script.result _ c.begin_script.ensures.most
    (ok_both c.begin_script.result _ _ _ (λ next is out. began_within names next c.take_spare.new.self c.begin_script.new.self c.args.steps.now c.begin_script.new.steps _ c.begin_script.ensures.counts out (is [])) c.begin_script.ensures.stands c.begin_script.ensures.next))

pub returns-in-Err-clause-most : goal.returns-in-Err-clause-most
returns-in-Err-clause-most g c =
    begun_none c.take_spare.new.self c.args.steps.now _
    (ap (λ (i : Interp). Writes (interp_state i).made) (rw c.in-Err.is at c.take_spare.ensures.err) ∙ new_writes (names_of c.args.natives.now) c.args.self.now c.requires)
