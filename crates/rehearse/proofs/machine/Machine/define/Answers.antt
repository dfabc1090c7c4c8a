use Rattle.std.proofs.Common.{refl}
use Rattle.natives.specs.Names.{names_of}
use Rattle.rehearse.proofs.Moving.{defines, ready_on}
use Rattle.rehearse.proofs.Standing.{scheduler_later}
use Rattle.rehearse.proofs.machine.Machine.define.Goals as goal

pub define-requires : goal.define-requires
define-requires g c = c.requires.ready.definer

pub returns-clause-did : goal.returns-clause-did
returns-clause-did g c =
    defines (names_of c.args.natives.now) c.args.self.now _ c.args.block.now c.in_ok-block.block c.args.listing.now c.define.new.listing c.requires.short c.in_ok-block.ensures c.in_ok-define.ensures.settled
    refl refl refl refl

pub returns-clause-ready : goal.returns-clause-ready
returns-clause-ready g c =
    let reaches = c.in_ok-define.ensures.settled.2 in
    ready_on (names_of c.args.natives.now) c.args.self.now _ c.requires.ready reaches c.in_ok-define.ensures.keeps
    (scheduler_later (names_of c.args.natives.now) c.args.self.now.objects.blueprint c.define.new.objects.blueprint c.args.self.now.scheduler reaches c.requires.ready.scheduler) refl
