use Rattle.sched_core.proofs.Determined.{determined}
use Rattle.sched_core.proofs.law.steps_are_determined.Goals as goal

pub returns : goal.returns
returns c = determined
