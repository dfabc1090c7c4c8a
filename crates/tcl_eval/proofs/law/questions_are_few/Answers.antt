use Rattle.tcl_eval.proofs.Laws as laws
use Rattle.tcl_eval.proofs.law.questions_are_few.Goals as goal

pub returns : goal.returns
returns g c = laws.questions_are_few g.H.Host.table
