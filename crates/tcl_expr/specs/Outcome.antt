-- What reading a part of an expression gives.
use Rattle.std.specs.Prelude.{ℕ}
use Rattle.txt_core.specs.Names.{Bytes}
use Rattle.tcl_expr.specs.declared.operator.Op.{Op}
use Rattle.tcl_expr.specs.Trees.{Tree, unary, choice}

-- Reading gives a tree, how many operators may still come in this text, and what is left behind it and the blanks after it;
-- or the bad place: how many bytes are left from it on.
pub data Outcome : Type 0 where
  done : Tree → ℕ → Bytes → Outcome
  bad : ℕ → Outcome

-- an operator before what is read
abbrev pub signed : Op → Outcome → Outcome
signed op (done x n t) = done (unary op x) n t
signed op (bad b) = bad b

-- the choice of which the last part is read
abbrev pub chosen : Tree → Tree → Outcome → Outcome
chosen x y (done z n t) = done (choice x y z) n t
chosen x y (bad b) = bad b

-- What a whole text is: an expression, or bad from here on.
pub data Answer : Type 0 where
  tree : Tree → Answer
  bad_from : ℕ → Answer
