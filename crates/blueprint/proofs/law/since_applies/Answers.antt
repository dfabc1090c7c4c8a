use Rattle.blueprint.proofs.Later.{applies}
use Rattle.blueprint.proofs.law.since_applies.Goals as goal

pub returns : goal.returns
returns c = applies
