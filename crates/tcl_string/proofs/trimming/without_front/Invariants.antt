use Rattle.std.proofs.Common.{◌≡◌, length}
use Rattle.natives.specs.Strings.{without_front}
use Rattle.tcl_string.specs.Sets.{set_has}
use Rattle.tcl_string.proofs.trimming.without_front.Given as goal

abbrev pub invariant-front : goal.invariant-front
invariant-front l = without_front (set_has l.set.holds) l.rest ≡ without_front (set_has l.fn.set.holds) l.bytes

abbrev pub decreases-front : goal.decreases-front
decreases-front l = length l.rest
