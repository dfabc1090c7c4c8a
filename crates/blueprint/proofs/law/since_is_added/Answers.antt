use Rattle.blueprint.proofs.Later.{added}
use Rattle.blueprint.proofs.law.since_is_added.Goals as goal

pub returns : goal.returns
returns c = added
