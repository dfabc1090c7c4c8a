-- The one answer that the rules give a text.
use Rattle.std.specs.Prelude.{◌≡◌, ℕ, ◌+◌, length}
use Rattle.txt_core.specs.Names.{Bytes}
use Rattle.tcl_expr.specs.Trees.{Tree}
use Rattle.tcl_expr.specs.Outcome.{Answer, tree, bad_from}
use Rattle.tcl_expr.specs.Grammar.{Reads}
use Rattle.tcl_expr.specs.Laws.Answers.{some_answer, one_answer}

-- The text is this expression.
abbrev pub IsTree : Tree → Bytes → Type 0
IsTree x t = Reads t (tree x)

-- The text is no expression: it can go on as one up to this place, counted from 0, and not past it.
abbrev pub IsBad : ℕ → Bytes → Type 0
IsBad place t = (left : ℕ) × (place + left ≡ length t) × Reads t (bad_from left)

-- The answer of a text. Nothing is known of it but the two laws below.
pub expression_of : Bytes → Answer
expression_of t = (some_answer t).0

pub reads_expression : (t : Bytes) → Reads t (expression_of t)
unfolding expression_of
reads_expression t = (some_answer t).1

pub expression_is : (t : Bytes) (a : Answer) → Reads t a → expression_of t ≡ a
expression_is t a h = one_answer t (expression_of t) a (reads_expression t) h
