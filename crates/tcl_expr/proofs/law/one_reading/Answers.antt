use Rattle.tcl_expr.specs.Reading.{reads_expression, expression_is}
use Rattle.tcl_expr.proofs.law.one_reading.Goals as goal

pub returns : goal.returns
returns c = record {
  gives = reads_expression;
  only = expression_is;
}
