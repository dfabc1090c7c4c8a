use Rattle.tcl_eval.proofs.Fronts as fronts
use Rattle.tcl_eval.proofs.law.fronts_write_less.Goals as goal

pub returns : goal.returns
returns c = fronts.fronts_write_less
