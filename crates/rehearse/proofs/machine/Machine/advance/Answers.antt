use Rattle.std.proofs.Common.{◌<◌, length, refl, ap, subst, arith}
use Rattle.natives.specs.Names.{names_of}
use Rattle.rehearse.specs.Advancing.{HasActor}
use Rattle.rehearse.specs.Reading.{actor_of}
use Rattle.rehearse.proofs.Moving.{found_at, ready_there}
use Rattle.rehearse.proofs.machine.Machine.advance.Goals as goal

pub step-requires-in-Worker : goal.step-requires-in-Worker
step-requires-in-Worker g c =
    let items = c.args.self.now.workers.items in
    let taken = c.index_mut-worker.result.now in
    let within : c.in-Worker.number < length items = subst (HasActor c.args.self.now) (ap actor_of c.in-Worker.is) c.requires.there in
    ready_there (names_of c.args.natives.now) c.args.self.now.objects.blueprint items c.in-Worker.number taken c.requires.ready.workers
    (found_at items c.in-Worker.number taken within c.index_mut-worker.ensures.value)

pub returns-in_ok-step-in-Scheduler : goal.returns-in_ok-step-in-Scheduler
returns-in_ok-step-in-Scheduler g c = rw c.in-Scheduler.is (
  record {
    turned = c.in_ok-step-in-Scheduler.ensures.0;
    is_idle = c.is_idle.ensures;
    started = refl;
    setting = refl;
    definer = refl;
    workers = refl;
  },
  c.in_ok-step-in-Scheduler.ensures.1,
)

pub returns-in_ok-step-in-Worker : goal.returns-in_ok-step-in-Worker
returns-in_ok-step-in-Worker g c =
    let items = c.args.self.now.workers.items in
    let taken = c.index_mut-worker.result.now in
    let within : c.in-Worker.number < length items = subst (HasActor c.args.self.now) (ap actor_of c.in-Worker.is) c.requires.there in
    rw c.in-Worker.is (
      record {
        taken = taken;
        given = c.step-in-Worker.new.self;
        there = found_at items c.in-Worker.number taken within c.index_mut-worker.ensures.value;
        moved = c.in_ok-step-in-Worker.ensures.0;
        is_idle = c.is_idle-in-Worker.ensures;
        started = refl;
        setting = refl;
        definer = refl;
        scheduler_is = refl;
        workers = refl;
      },
      c.in_ok-step-in-Worker.ensures.1,
    )
