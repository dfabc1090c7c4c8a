use Rattle.blueprint.proofs.Later.{all, saved}
use Rattle.blueprint.proofs.law.whole_is_all.Goals as goal

pub returns-clause-all : goal.returns-clause-all
returns-clause-all c = all

pub returns-clause-saved : goal.returns-clause-saved
returns-clause-saved c = saved
