use Rattle.load_gen.proofs.Rounds.{file_short}
use Rattle.load_gen.proofs.law.loads_are_short.Goals as goal

pub returns : goal.returns
returns c = file_short
