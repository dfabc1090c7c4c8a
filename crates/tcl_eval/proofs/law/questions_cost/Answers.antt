use Rattle.tcl_eval.proofs.Laws as laws
use Rattle.tcl_eval.proofs.law.questions_cost.Goals as goal

pub returns : goal.returns
returns g c = laws.questions_cost g.H.Host.table
