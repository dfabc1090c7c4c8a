-- How what waits while a text is read goes on: the meaning of the program's stacks, innermost first.
use Rattle.std.specs.Prelude.{◌≡◌, ℕ, zero, suc, ◌+◌, ◌-◌, ◌<◌, ◌≤◌, List, [], ◌∷◌, map, reverse, Option, None, Some}
use Rattle.txt_core.specs.Names.{Bytes}
use Rattle.tcl_expr.specs.declared.operator.Op.{Op}
use Rattle.tcl_expr.specs.declared.reading.Pending.{Pending}
use Rattle.tcl_expr.specs.declared.reading.Asked.{Asked}
use Rattle.tcl_expr.specs.declared.reading.Asked.TheVariants as waiting
use Rattle.tcl_expr.specs.declared.reading.Taken.{Taken}
use Rattle.tcl_expr.specs.declared.reading.Taken.TheVariants as settled
use Rattle.tcl_expr.specs.Trees.{Tree, unary, binary}
use Rattle.tcl_expr.specs.Outcome.{Outcome, done, bad, chosen}
use Rattle.tcl_expr.specs.Tokens.{level, loosest, next_colon, stuck}
use Rattle.tcl_expr.specs.Grammar.{ChainAt, Then, LevelAt}
use Rattle.tcl_expr.specs.View.{tree_of}

-- unary operators before a tree, the last one nearest
abbrev pub with_signs : List Op → Tree → Tree
with_signs [] x = x
with_signs (op ∷ ops) x = unary op (with_signs ops x)

abbrev pub signs_before : List Op → Outcome → Outcome
signs_before ops (done x n t) = done (with_signs ops x) n t
signs_before ops (bad b) = bad b

-- an operator and its left side, which wait for the right side
abbrev pub frame_of : Pending → Op × Tree
frame_of p = (p.op, tree_of p.tree)

abbrev pub stack : List Pending → List (Op × Tree)
stack ps = reverse (map frame_of ps)

-- the level below that of an operator
abbrev pub lower : Op → ℕ
lower op = level op - 1

-- the level that is read while these wait
abbrev pub limit : List (Op × Tree) → ℕ
limit [] = loosest
limit (p ∷ ps) = lower p.0

-- what waits binds looser and looser
abbrev pub IsStack : List (Op × Tree) → Type 0
IsStack [] = Unit {0}
IsStack (p ∷ ps) = (1 ≤ level p.0) × (level p.0 ≤ limit ps) × IsStack ps

-- what waits innermost binds looser than a level
abbrev pub IsLoose : ℕ → List (Op × Tree) → Type 0
IsLoose l [] = Unit {0}
IsLoose l (p ∷ ps) = l < level p.0

-- the operator that comes next, if any, binds as loosely as a level or looser
abbrev pub AtLeast : ℕ → Option (Op × ℕ × Bytes) → Type 0
AtLeast l None = Unit {0}
AtLeast l (Some x) = l ≤ level x.0

module _ (Signed : ℕ → Bytes → Outcome → Type 0) where
  -- v was read at level j; going on over the next d levels gives w
  abbrev pub Up : ℕ → ℕ → Outcome → Outcome → Type 0
  Up zero j v w = v ≡ w
  Up (suc d) j v w = (u : Outcome) × Then (ChainAt (suc j) (LevelAt Signed j)) v u × Up d (suc j) u w

  -- the right side of an operator was read as w, and its level goes on
  abbrev pub Joins : Op × Tree → Outcome → Outcome → Type 0
  Joins p (bad b) c = c ≡ bad b
  Joins p (done y n t) c = ChainAt (suc (lower p.0)) (LevelAt Signed (lower p.0)) (binary p.0 p.1 y) n t c

  -- v was read at level j, d levels below the limit of what waits; all gives o
  abbrev pub Rest : List (Op × Tree) → ℕ → ℕ → Outcome → Outcome → Type 0
  Rest [] d j v o = Up d j v o
  Rest (p ∷ ps) d j v o = (w : Outcome) × Up d j v w × ((c : Outcome) × Joins p w c × ((e : ℕ) × (e + suc (lower p.0) ≡ limit ps) × Rest ps e (suc (lower p.0)) c o))

  -- an operand was read as v; all gives o
  abbrev pub FromOperand : List (Op × Tree) → Outcome → Outcome → Type 0
  FromOperand ps v o = Rest ps (limit ps) zero v o

-- a choice that waits for its middle, with its test, or for its last part, with its test and its middle
pub data Part : Type 0 where
  for_middle : Tree → Part
  for_last : Tree → Tree → Part

abbrev pub part_of : Asked → Part
part_of (waiting.Then x) = for_middle (tree_of x)
part_of (waiting.Else x y) = for_last (tree_of x) (tree_of y)

abbrev pub parts : List Asked → List Part
parts ps = reverse (map part_of ps)

module _ (Choice : ℕ → Bytes → Outcome → Type 0) where
  abbrev pub Last : Tree → Tree → ℕ → Bytes → Option Bytes → Outcome → Type 0
  Last x y j u None w = w ≡ bad (stuck j u)
  Last x y j u (Some s) w = (z : Outcome) × Choice j s z × (w ≡ chosen x y z)

  -- the middle of a choice was read as v; the choice gives w
  abbrev pub Middle : Tree → Outcome → Outcome → Type 0
  Middle x (bad b) w = w ≡ bad b
  Middle x (done y j u) w = Last x y j u (next_colon u) w

  -- an expression was read as v; all gives o
  abbrev pub Waits : List Part → Outcome → Outcome → Type 0
  Waits [] v o = v ≡ o
  Waits (for_middle x ∷ ps) v o = (w : Outcome) × Middle x v w × Waits ps w o
  Waits (for_last x y ∷ ps) v o = Waits ps (chosen x y v) o

  -- an expression whose end has been read; all gives o
  abbrev pub IsSettled : Taken → List Part → ℕ → Bytes → Outcome → Type 0
  IsSettled (settled.Whole x) ps n t o = done (tree_of x) n t ≡ o
  IsSettled (settled.Middle x y) ps n t o = Waits (for_middle (tree_of x) ∷ ps) (done (tree_of y) n t) o
