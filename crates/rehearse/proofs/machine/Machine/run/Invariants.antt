use Rattle.natives.specs.Names.{names_of}
use Rattle.rehearse.specs.Reading.{actor_of}
use Rattle.rehearse.proofs.Advancing.{SoFar, steps_left}
use Rattle.rehearse.proofs.machine.Machine.run.Given as goal

abbrev pub invariant-steps : goal.invariant-steps
invariant-steps g l = SoFar (names_of l.natives) (actor_of l.actor) l.idle l.fn.self l.fn.listing l.self l.listing

abbrev pub decreases-steps : goal.decreases-steps
decreases-steps g l = steps_left (actor_of l.actor) l.self
