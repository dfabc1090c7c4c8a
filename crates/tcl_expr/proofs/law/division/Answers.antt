use Rattle.tcl_expr.proofs.Remainders as remainders
use Rattle.tcl_expr.proofs.law.division.Goals as goal

pub returns : goal.returns
returns c = record {
  made = remainders.made;
  between = remainders.between;
}
