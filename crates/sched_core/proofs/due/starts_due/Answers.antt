use Rattle.sched_core.proofs.Keys.{first_due}
use Rattle.sched_core.proofs.due.starts_due.Goals as goal

pub returns-in-Some : goal.returns-in-Some
returns-in-Some c = first_due c.args.now c.args.plans.now.entries (c.in-Some.key.now, c.in-Some.field-0-1.now) c.in-Some.ensures.first c.in-Some.ensures.all_from
