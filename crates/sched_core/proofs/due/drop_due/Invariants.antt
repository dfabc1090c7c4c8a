use Rattle.std.proofs.Common.{◌≡◌, length}
use Rattle.std.specs.List.{filter}
use Rattle.sched_core.specs.Entries.{AreInOrder}
use Rattle.sched_core.specs.Due.{is_later}
use Rattle.sched_core.proofs.due.drop_due.Given as goal

abbrev pub invariant-loop-plans : goal.invariant-loop-plans
invariant-loop-plans l = record {
  filtered : filter (is_later l.now) l.plans.entries ≡ filter (is_later l.now) l.initial.plans.entries;
  ordered : AreInOrder l.plans.entries;
}

abbrev pub decreases-loop-plans : goal.decreases-loop-plans
decreases-loop-plans l = length l.plans.entries
