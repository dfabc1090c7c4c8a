use Rattle.std.proofs.Common.{refl}
use Rattle.cmd_table.specs.Commands.{language_names}
use Rattle.tcl_eval.proofs.law.language_names_have_doers.Goals as goal

pub returns : goal.returns
unfolding language_names
returns c = (refl, (refl, (refl, (refl, (refl, (refl, (refl, (refl, (refl, (refl, (refl, (refl, (refl, (refl, (refl, (refl, (refl, (refl, (refl, (refl, (refl, (refl, tt))))))))))))))))))))))
