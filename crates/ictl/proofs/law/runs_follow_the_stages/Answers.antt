use Rattle.ictl.proofs.Following.{in_order}
use Rattle.ictl.proofs.law.runs_follow_the_stages.Goals as goal

pub returns : goal.returns
returns c = in_order
