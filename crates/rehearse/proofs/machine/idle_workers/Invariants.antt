use Rattle.std.proofs.Common.{◌≡◌, length}
use Rattle.rehearse.proofs.Moving.{AreIdle}
use Rattle.rehearse.proofs.machine.idle_workers.Given as goal

abbrev pub invariant-loop-number : goal.invariant-loop-number
invariant-loop-number l = AreIdle 0 l.made.items × (length l.made.items ≡ l.number)
