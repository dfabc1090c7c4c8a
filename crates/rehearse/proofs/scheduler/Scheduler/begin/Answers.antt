use Rattle.std.proofs.Common.{arith, refl, sym}
use Rattle.natives.specs.Names.{names_of}
use Rattle.rehearse.specs.declared.scheduler.Running.{Running}
use Rattle.rehearse.specs.Objects.{Setting}
use Rattle.rehearse.specs.Playing.{setting_of}
use Rattle.rehearse.proofs.Keeping.{keeps_none}
use Rattle.rehearse.proofs.Standing.{on_same}
use Rattle.rehearse.proofs.Turning.{begins_stepped, begun_shows, past_get}
use Rattle.rehearse.proofs.scheduler.Scheduler.begin.Goals as goal

pub returns-then-self-len : goal.returns-then-self-len
returns-then-self-len g c = λ listing. c.take_due.ensures (setting_of (names_of c.args.natives.now) c.args.setting.now) listing refl c.requires.ready

pub unreachable-requires : goal.unreachable-requires
unreachable-requires g c =
    omega (arith, past_get c.args.self.now.begun c.args.self.now.due (sym (rw c.in_default.is at c.get.ensures)), c.if-self-len.false, c.len.ensures)

pub returns : goal.returns
returns g c = rw c.turn_to.ensures (λ listing.
    let setting : Setting = setting_of (names_of c.args.natives.now) c.args.setting.now in
    let made = c.in_ok-interp.interp in
    let begun = c.begin_script-run.ensures in
    let running : Running = record { id = c.in-Some.due.now.id; run = c.begin_script-run.result; moment = c.args.setting.now.moment } in
    begins_stepped setting c.args.self.now _ c.args.objects.now listing c.in-Some.due.now running c.requires.none (sym c.in-Some.ensures)
    (begun_shows setting.natives setting c.args.objects.now c.in-Some.due.now running made c.in_ok-interp.ensures.is_new.1 begun refl refl)
    (record {
      sound = begun.sound;
      on = on_same setting.natives c.args.objects.now.blueprint running.run.interp made begun.blueprint c.in_ok-interp.ensures.is_new.2;
    })
    begun.falls
    (keeps_none setting.natives c.args.objects.now.blueprint c.take.new.self c.take.ensures.none c.requires.ready.0.0) refl refl refl)
