use Rattle.ictl.proofs.Ends.{ends_are_ends}
use Rattle.ictl.proofs.law.ends_are_ends.Goals as goal

pub returns : goal.returns
returns c = ends_are_ends
