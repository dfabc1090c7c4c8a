use Rattle.std.proofs.Common.{Option, ap}
use Rattle.rehearse.specs.declared.scheduler.Running.{Running}
use Rattle.rehearse.specs.Playing.{with_running}
use Rattle.rehearse.proofs.scheduler.Scheduler.turn_to.Goals as goal

pub returns : goal.returns
returns c = ap (λ (r : Option Running). with_running c.args.self.now r) c.replace.ensures.after
