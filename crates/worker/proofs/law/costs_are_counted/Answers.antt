use Rattle.worker.proofs.Rows.{rows}
use Rattle.worker.proofs.law.costs_are_counted.Goals as goal

pub returns : goal.returns
returns c = rows
