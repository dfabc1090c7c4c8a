use Rattle.blueprint.proofs.Spelling.{read_back}
use Rattle.blueprint.proofs.law.scripts_are_read.Goals as goal

pub returns : goal.returns
returns c = read_back
