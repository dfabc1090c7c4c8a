use Rattle.std.proofs.Common.{◌≡◌, length}
use Rattle.natives.specs.Strings.{without_end}
use Rattle.tcl_string.specs.Sets.{set_has}
use Rattle.tcl_string.proofs.trimming.without_end.Given as goal

abbrev pub invariant-end : goal.invariant-end
invariant-end l = without_end (set_has l.set.holds) l.rest ≡ without_end (set_has l.fn.set.holds) l.bytes

abbrev pub decreases-end : goal.decreases-end
decreases-end l = length l.rest
