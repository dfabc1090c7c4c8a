use Rattle.std.proofs.Common.{length}
use Rattle.txt_core.proofs.Starting.{EndOf}
use Rattle.txt_core.proofs.pattern.run_at_first.Given as goal

abbrev pub invariant-places : goal.invariant-places
invariant-places l = EndOf l.pattern l.text l.from

abbrev pub decreases-places : goal.decreases-places
decreases-places l = length l.from
