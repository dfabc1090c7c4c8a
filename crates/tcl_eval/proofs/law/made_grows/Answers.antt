use Rattle.tcl_eval.proofs.Made as made
use Rattle.tcl_eval.proofs.law.made_grows.Goals as goal

pub returns : goal.returns
returns g c = made.made_grows g.H.Host.table
