-- An `expr` whose words are all there.
use Rattle.tcl_expr.specs.View.{tree_of}
use Rattle.tcl_eval.specs.State.{Rest, Next}
use Rattle.tcl_eval.specs.Costs.{evaluation_cost}
use Rattle.tcl_eval.specs.Going.{Inner, pay, give, command_end}
use Rattle.tcl_eval.specs.Expressions.{run_expression, value_end}
use Rattle.tcl_eval.specs.declared.stack.Evaluation.{Evaluation}
use Rattle.tcl_eval.specs.declared.evaluation.Begun.{Begun}
use Rattle.tcl_eval.specs.declared.evaluation.Begun.TheVariants.{Gives, Part}

module _ {H : Type 0} where
  -- the command is paid for, then its evaluation, and what that comes to ends it
  abbrev pub evaluation_next : Inner H → Evaluation → Next H → Rest H
  evaluation_next inner evaluation k =
      pay evaluation.cost (pay evaluation_cost (run_expression inner (tree_of evaluation.expr.value) (value_end (command_end k))))

  -- how an expression goes on of which nothing was run yet
  abbrev pub begun_next : Inner H → Begun → Next H → Rest H
  begun_next inner (Gives value) k = give value k
  begun_next inner (Part expr) k = run_expression inner (tree_of expr.value) k
