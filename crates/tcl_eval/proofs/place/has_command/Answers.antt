use Rattle.std.proofs.Common.{refl}
use Rattle.tcl_eval.proofs.Rows.{has_command_by}
use Rattle.tcl_eval.proofs.place.has_command.Goals as goal

pub returns-clause-there : goal.returns-clause-there
returns-clause-there c = rw c.as_slice.ensures.value (has_command_by c.args.script.now c.args.at _ refl)
