use Rattle.tcl_eval.proofs.Made as made
use Rattle.tcl_eval.proofs.law.made_by_commands.Goals as goal

pub returns : goal.returns
returns g c = made.made_by_commands g.H.Host.table
