use Rattle.tcl_eval.proofs.Alike as alike
use Rattle.tcl_eval.proofs.law.turns_suffice.Goals as goal

pub returns : goal.returns
returns g c = alike.turns_suffice g.H.Host.table
