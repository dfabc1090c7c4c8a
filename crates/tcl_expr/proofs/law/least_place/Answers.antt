use Rattle.tcl_expr.proofs.Slashes.{none_goes_past}
use Rattle.tcl_expr.proofs.Reached.{some_reaches}
use Rattle.tcl_expr.proofs.law.least_place.Goals as goal

pub returns : goal.returns
returns c = record {
  none = λ t place h. none_goes_past place t h;
  some = λ t place h. some_reaches place t h;
}
