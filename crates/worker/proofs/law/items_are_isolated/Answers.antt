use Rattle.worker.proofs.Isolation.{isolated}
use Rattle.worker.proofs.law.items_are_isolated.Goals as goal

pub returns : goal.returns
returns c = isolated
