use Rattle.std.proofs.Common.{refl}
use Rattle.natives.specs.Names.{names_of}
use Rattle.rehearse.specs.Reading.{event_of}
use Rattle.rehearse.proofs.Moving.{played_by, barred_by, ready_kept}
use Rattle.rehearse.proofs.machine.Machine.play.Goals as goal

pub returns-then-not-came-clause-played : goal.returns-then-not-came-clause-played
returns-then-not-came-clause-played g c =
    barred_by (names_of c.args.natives.now) c.in_ok-came.came (event_of c.args.event) c.args.self.now c.act.new.self c.args.listing.now c.act.new.listing c.if-not-came.true c.in_ok-came.ensures.did

pub returns-clause-played : goal.returns-clause-played
returns-clause-played g c =
    played_by (names_of c.args.natives.now) c.in_ok-came.came (event_of c.args.event) c.args.self.now c.act.new.self _ c.args.listing.now c.act.new.listing c.if-not-came.false c.in_ok-came.ensures.did refl refl refl refl refl

pub returns-clause-ready : goal.returns-clause-ready
returns-clause-ready g c = ready_kept (names_of c.args.natives.now) c.act.new.self _ c.in_ok-came.ensures.ready refl refl refl refl
