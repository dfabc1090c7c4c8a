use Rattle.sched_core.proofs.Finding.{Left}
use Rattle.sched_core.proofs.schedule.key_of.Given as goal

abbrev pub invariant-loop-key : goal.invariant-loop-key
invariant-loop-key l = Left l.id l.plans.entries l.key-iterator
