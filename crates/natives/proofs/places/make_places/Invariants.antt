use Rattle.std.proofs.Common.{◌-◌, length}
use Rattle.natives.specs.Places.{HaveSameItems}
use Rattle.natives.proofs.places.make_places.Given as goal

-- nothing came to stand there, and nothing is gone
abbrev pub invariant-each : goal.invariant-each
invariant-each g l = HaveSameItems l.fn.places.items l.places.items

abbrev pub decreases-each : goal.decreases-each
decreases-each g l = 256 - length l.places.items
