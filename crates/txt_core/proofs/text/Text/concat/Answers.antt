use Rattle.std.proofs.Common.{arith}
use Rattle.std.proofs.lemmas.Grind.{common_steps}
use Rattle.txt_core.proofs.Joining.{concat_more}
use Rattle.txt_core.proofs.text.Text.concat.Goals as goal

pub texts-preserved : goal.texts-preserved
texts-preserved c = grind (arith, common_steps, concat_more)
