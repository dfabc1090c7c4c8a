use Rattle.std.proofs.Common.{refl}
use Rattle.rehearse.proofs.keeper.Keeper.new.Goals as goal

pub returns : goal.returns
returns c = refl
