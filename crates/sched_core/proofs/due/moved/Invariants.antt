use Rattle.sched_core.proofs.Moving.{Moving}
use Rattle.sched_core.proofs.due.moved.Given as goal

abbrev pub invariant-loop-key : goal.invariant-loop-key
invariant-loop-key l = Moving l.now l.plans.entries l.key-iterator l.later.entries
