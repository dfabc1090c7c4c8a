use Rattle.tcl_eval.specs.declared.outcome.Outcome.TheVariants.{Asks}
use Rattle.tcl_eval.proofs.Fronts as fronts
use Rattle.tcl_eval.proofs.law.made_grows_on.Goals as goal

pub returns : goal.returns
returns g c = λ names question engine given. fronts.outcome_front names g.H.Host.table (Asks question) engine given
