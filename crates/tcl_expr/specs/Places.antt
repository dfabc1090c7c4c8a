-- The bad place of a text is the least one that no expression can go past: with the byte that stands there no expression can go on, and some expression begins with the bytes before it.
use Rattle.std.specs.Prelude.{◌≡◌, ◌<◌, ◌^◌, ℕ, ◌∷◌, ◌++◌, length, Result, Ok, Err}
use Rattle.std.specs.List.{All}
use Rattle.txt_core.specs.Names.{Bytes}
use Rattle.tcl_expr.specs.declared.expr.Expr.{Expr}
use Rattle.tcl_expr.specs.declared.fault.ExprText.{ExprText}
use Rattle.tcl_expr.specs.declared.fault.ExprText.TheVariants as expr_text
use Rattle.tcl_expr.specs.Trees.{Tree}
use Rattle.tcl_expr.specs.Reading.{IsTree}

-- No text that begins with the bytes before this place and the one at it is an expression.
abbrev pub NoneGoesPast : ℕ → Bytes → Type 0
NoneGoesPast place t = (front : Bytes) (b : ℕ) (rest other : Bytes) (x : Tree) → t ≡ front ++ b ∷ rest → length front ≡ place → IsTree x (front ++ b ∷ other) → ⊥

-- Some expression begins with the bytes before this place, and goes on with bytes.
abbrev pub SomeReaches : ℕ → Bytes → Type 0
SomeReaches place t = (front rest : Bytes) → t ≡ front ++ rest → length front ≡ place → (more : Bytes) × All (λ b. b < 2 ^ 8) more × (x : Tree) × IsTree x (front ++ more)

-- What a text that is bad at a place is answered, as far as it goes beyond that place: nothing goes past it.
abbrev pub AnswersLeast : Bytes → Result Expr ExprText → Type 0
AnswersLeast t (Err (expr_text.Bad at)) = NoneGoesPast at t
AnswersLeast t (Err expr_text.NoMemory) = Unit {0}
AnswersLeast t (Ok e) = Unit {0}

-- And some expression reaches it.
abbrev pub AnswersReached : Bytes → Result Expr ExprText → Type 0
AnswersReached t (Err (expr_text.Bad at)) = SomeReaches at t
AnswersReached t (Err expr_text.NoMemory) = Unit {0}
AnswersReached t (Ok e) = Unit {0}
