-- What is kept of a text is what it is as an expression.
use Rattle.txt_core.specs.Names.{Bytes}
use Rattle.tcl_expr.specs.Reading.{IsTree, IsBad}
use Rattle.tcl_expr.specs.View.{tree_of}
use Rattle.tcl_eval.specs.declared.expr_reading.ExprReading.{ExprReading}
use Rattle.tcl_eval.specs.declared.expr_reading.ExprReading.TheVariants.{Good, Bad}

abbrev pub IsReading : Bytes → ExprReading → Type 0
IsReading text (Good expr) = IsTree (tree_of expr.value) text
IsReading text (Bad at) = IsBad at text
