use Rattle.std.proofs.Common.{ap}
use Rattle.rehearse.specs.declared.worker.Task.{Task}
use Rattle.rehearse.specs.Playing.{with_task}
use Rattle.rehearse.proofs.worker.Worker.turn_to.Goals as goal

pub returns : goal.returns
returns c = ap (λ (t : Task). with_task c.args.self.now t) c.replace.ensures.after
