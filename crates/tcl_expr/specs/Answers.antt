-- What the program's functions answer.
use Rattle.std.specs.Prelude.{◌≡◌, ℕ, ◌+◌, length, Option, None, Some, Result, Ok, Err, ◌-◌, ◌⊎◌}
use Rattle.txt_core.specs.Names.{Bytes}
use Rattle.tcl_parse.specs.declared.fault.Fault.{Fault}
use Rattle.txt_core.specs.declared.stop.Stop.{Stop}
use Rattle.txt_core.specs.declared.stop.Stop.TheVariants as stop
use Rattle.tcl_expr.specs.Trees.{Tree}
use Rattle.tcl_expr.specs.Outcome.{Outcome, done, bad, tree, bad_from}
use Rattle.tcl_parse.specs.Outcome as script_outcome
use Rattle.tcl_parse.specs.Tree.{Word, Part}
use Rattle.tcl_expr.specs.declared.expr.Expr.{Expr}
use Rattle.tcl_expr.specs.declared.fault.ExprText.{ExprText}
use Rattle.tcl_expr.specs.declared.fault.ExprText.TheVariants as expr_text
use Rattle.tcl_expr.specs.View.{tree_of}
use Rattle.tcl_expr.specs.Grammar.{bad_place, word_operand, part_operand, closed, start, bare_start, Enclosed, Substituted, InParens, OperandBy, Reads}

-- The outcome that a function's error stands for is as P says, unless memory ran out.
abbrev pub Stopped : Stop ℕ → (Outcome → Type 0) → Type 0
Stopped stop.NoMemory P = Unit {0}
Stopped (stop.Fault k) P = P (bad k)

-- The outcome that a function returned, whose tree, operators to come and rest are seen by view, count and rest, is as P says, unless memory ran out.
abbrev pub Gives : {X : Type 0} → (X → Tree) → (X → ℕ) → (X → Bytes) → Result X (Stop ℕ) → (Outcome → Type 0) → Type 0
Gives view count rest (Ok x) P = P (done (view x) (count x) (rest x))
Gives view count rest (Err e) P = Stopped e P

-- The same for a function that returns None exactly where no outcome is as P says.
abbrev pub GivesAny : {X : Type 0} → (X → Tree) → (X → ℕ) → (X → Bytes) → Result (Option X) (Stop ℕ) → (Outcome → Type 0) → Type 0
GivesAny view count rest (Ok None) P = (o : Outcome) → P o → ⊥
GivesAny view count rest (Ok (Some x)) P = P (done (view x) (count x) (rest x))
GivesAny view count rest (Err e) P = Stopped e P

-- the bad place of a fault that a word of this text has
abbrev pub stopped_word : Bytes → Stop Fault → Stop ℕ
stopped_word t stop.NoMemory = stop.NoMemory
stopped_word t (stop.Fault f) = stop.Fault (bad_place t f.kind f.left)

-- a word in quotes or braces as an operand
abbrev pub WordGives : ℕ → Bytes → Outcome → Type 0
WordGives n t o = (w : script_outcome.Outcome Word) × Enclosed t w × (o ≡ word_operand n t w)

-- what begins with a dollar or a bracket as an operand
abbrev pub PartGives : ℕ → Bytes → Outcome → Type 0
PartGives n t o =
    ((p : script_outcome.Outcome Part) × Substituted t p × (o ≡ part_operand n t p))
    ⊎ (((p : script_outcome.Outcome Part) → Substituted t p → ⊥) × (o ≡ bad (length t - 1)))

-- an expression in parentheses, from behind the opening one on
abbrev pub ClosedGives : ℕ → ℕ → Bytes → Outcome → Type 0
ClosedGives room n t o = (v : Outcome) × InParens room n t v × (o ≡ closed v)

-- an operand
abbrev pub OperandGives : ℕ → ℕ → Bytes → Outcome → Type 0
OperandGives room n t o = OperandBy (InParens room) (start t) n t o

-- an operand that is no word in quotes or braces
abbrev pub BareGives : ℕ → ℕ → Bytes → Outcome → Type 0
BareGives room n t o = OperandBy (InParens room) (bare_start t) n t o

-- What parse_expr answers: the text's expression, or its bad place, unless memory ran out.
abbrev pub Answers : Bytes → Result Expr ExprText → Type 0
Answers t (Ok e) = Reads t (tree (tree_of e))
Answers t (Err (expr_text.Bad at)) = (left : ℕ) × (at + left ≡ length t) × Reads t (bad_from left)
Answers t (Err expr_text.NoMemory) = Unit {0}
