-- What an expression comes to: its parts from left to right, and of `&&`, `||` and `?:` only what is needed.
use Rattle.std.specs.Prelude.{zero, suc, ℕ, ◌-◌, [], length, drop, nat_lt, if◌then◌else◌, codes, Ok, Err}
use Rattle.txt_core.specs.Names.{Bytes, Words}
use Rattle.tcl_parse.specs.Tree.{parts}
use Rattle.tcl_expr.specs.Trees as trees
use Rattle.tcl_expr.specs.Trees.{Tree}
use Rattle.tcl_expr.specs.Outcome.{Answer, tree, bad_from}
use Rattle.tcl_expr.specs.Reading.{expression_of}
use Rattle.tcl_expr.specs.Operators.{Applied, unary, binary, value_of}
use Rattle.tcl_expr.specs.declared.operator.Op.{Op}
use Rattle.tcl_expr.specs.declared.operator.Op.TheVariants.{And, Or}
use Rattle.tcl_host.specs.Codes as code_of
use Rattle.tcl_eval.specs.declared.stack.Ended.{Ended}
use Rattle.tcl_eval.specs.declared.operation.Way.{Way}
use Rattle.tcl_eval.specs.declared.operation.Way.TheVariants.{Both, IfTrue, IfFalse}
use Rattle.tcl_eval.specs.Words.{joined}
use Rattle.tcl_eval.specs.Messages.{bad_expression, operator_fault}
use Rattle.tcl_eval.specs.Costs.{evaluation_cost}
use Rattle.tcl_eval.specs.Results.{ended, error_of, wrong_words_end}
use Rattle.tcl_eval.specs.Going.{Inner, on_ok, pay, give, fails, word_end, by_truth}
use Rattle.tcl_eval.specs.Pieces.{run_parts}
use Rattle.tcl_eval.specs.State.{Rest, Next}

-- what an operator gives: a value, or the error of its fault
abbrev pub applied : Applied → Op → Bytes → Ended
applied (Ok value) op operand = ended code_of.ok value
applied (Err why) op operand = error_of (operator_fault why op operand)

-- an operator before one operand
abbrev pub with_one : Op → Bytes → Ended
with_one op operand = applied (unary op operand) op operand

-- An operator between two operands. Where it wants truths, the left one has one: it was looked at before the right one was evaluated.
abbrev pub with_two : Op → Bytes → Bytes → Ended
with_two op left right = applied (binary op left right) op right

-- when the right operand is evaluated: that of `&&` only where the left one is true, that of `||` only where it is false
abbrev pub way_of : Op → Way
way_of And = IfTrue
way_of Or = IfFalse
way_of _ = Both

-- what an `expr` comes to whose expression came to this
abbrev pub whole_value : ℕ → Bytes → Ended
whole_value zero result = ended code_of.ok (value_of result)
whole_value (suc code) result = ended (suc code) result

module _ {H : Type 0} where
  -- the left operand has this value; this evaluates the right one and applies the operator
  abbrev pub behind_left : Way → Bytes → Rest H → Next H → Rest H
  behind_left Both left right k = right
  behind_left IfTrue left right k = by_truth left right (k code_of.ok (codes "0")) k
  behind_left IfFalse left right k = by_truth left (k code_of.ok (codes "1")) right k

  -- an expression; a word of it is judged by its length as any word is
  abbrev pub run_expression : Inner H → Tree → Next H → Rest H
  run_expression inner (trees.value text) k = k code_of.ok text
  run_expression inner (trees.word word) k = run_parts inner (parts word) [] (word_end (λ value. k code_of.ok value) k)
  run_expression inner (trees.unary op x) k = run_expression inner x (on_ok (λ operand. give (with_one op operand) k) k)
  run_expression inner (trees.binary op x y) k =
      run_expression inner x (on_ok (λ left.
      behind_left (way_of op) left (run_expression inner y (on_ok (λ right. give (with_two op left right) k) k)) k) k)
  run_expression inner (trees.choice x y z) k =
      run_expression inner x (on_ok (λ value. by_truth value (run_expression inner y k) (run_expression inner z k) k) k)

  -- what a text is as an expression; one that is none is an error, and nothing of it is evaluated
  abbrev pub run_answer : Inner H → Bytes → Answer → Next H → Rest H
  run_answer inner text (tree x) k = run_expression inner x k
  run_answer inner text (bad_from left) k = fails (bad_expression (length text - left)) k

  -- an evaluation of a text as an expression is paid for before it is read
  abbrev pub evaluate : Inner H → Bytes → Next H → Rest H
  evaluate inner text k = pay evaluation_cost (run_answer inner text (expression_of text) k)

  -- what a command that wants a truth goes on with
  abbrev pub test : Inner H → Bytes → Rest H → Rest H → Next H → Rest H
  test inner text when_true when_false k = evaluate inner text (on_ok (λ value. by_truth value when_true when_false k) k)

  -- the value of a whole expression: its decimal form where it is a number, else its text
  abbrev pub value_end : Next H → Next H
  value_end k = on_ok (λ value. k code_of.ok (value_of value)) k

  -- `expr word word*`: the words are joined by a space, and evaluated
  abbrev pub do_expr : Inner H → Words → Next H → Rest H
  do_expr inner words k =
      if nat_lt (length words) 2 then give (wrong_words_end words) k else evaluate inner (joined (drop 1 words)) (value_end k)
