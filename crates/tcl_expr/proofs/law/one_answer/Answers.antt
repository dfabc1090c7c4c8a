use Rattle.tcl_expr.proofs.Whole as whole
use Rattle.tcl_expr.proofs.law.one_answer.Goals as goal

pub returns : goal.returns
returns c = record {
  some = whole.some;
  one_tree = whole.one_tree;
  one_place = whole.one_place;
  not_both = whole.not_both;
}
