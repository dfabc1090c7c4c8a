use Rattle.std.proofs.Common.{refl, arith}
use Rattle.std.proofs.lemmas.List.{length-replicate}
use Rattle.rehearse.specs.World.{idle, all_idle}
use Rattle.rehearse.proofs.Moving.{shows_length}
use Rattle.rehearse.proofs.Opening.{opens_with, ready_with}
use Rattle.rehearse.proofs.machine.Machine.set_workers.Goals as goal

pub returns-clause-did : goal.returns-clause-did
returns-clause-did c = λ names listing.
    opens_with names c.args.self.now _ c.turn_to.new.self c.args.count listing c.if-self.false (omega arith) (omega arith) c.turn_to.ensures refl refl refl refl (c.in_ok-workers.ensures.shows names)

pub returns-clause-ready : goal.returns-clause-ready
returns-clause-ready c = λ names ready.
    ready_with names c.args.self.now _ c.turn_to.new.self ready c.turn_to.ensures refl refl refl (c.in_ok-workers.ensures.ready names c.args.self.now.objects.blueprint ready.definer.0)
    (omega (arith, shows_length names 0 c.in_ok-workers.workers.items (all_idle c.args.count) (c.in_ok-workers.ensures.shows names), length-replicate c.args.count idle))
