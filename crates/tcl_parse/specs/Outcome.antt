-- What reading a text gives.
use Rattle.std.specs.Prelude.{ℕ, List, ◌∷◌, Option, Some, None, Result, Ok, Err}
use Rattle.txt_core.specs.Names.{Bytes}
use Rattle.tcl_parse.specs.declared.fault.Kind.{Kind}
use Rattle.tcl_parse.specs.declared.fault.Fault.{Fault}
use Rattle.txt_core.specs.declared.stop.Stop.{Stop}
use Rattle.txt_core.specs.declared.stop.Stop.TheVariants as stop
use Rattle.tcl_parse.specs.Tree.{Word, literal}

-- Reading gives a value and what is left behind it, or a fault and how many bytes are left where it stands, with its own byte.
pub data Outcome (A : Type 0) : Type 0 where
  done : A → Bytes → Outcome A
  fault : Kind → ℕ → Outcome A

-- One more item in front of what is read behind it; a fault there is a fault of all.
abbrev pub put : {A : Type 0} → A → Outcome (List A) → Outcome (List A)
put x (done xs r) = done (x ∷ xs) r
put x (fault k n) = fault k n

-- Bytes in front of the parts that are read behind them.
abbrev pub put_text : Bytes → Outcome Word → Outcome Word
put_text bs (done w r) = done (literal bs w) r
put_text bs (fault k n) = fault k n

-- The outcome that a function's error stands for is as P says, unless memory ran out.
abbrev pub Stopped : {Y : Type 0} → Stop Fault → (Outcome Y → Type 0) → Type 0
Stopped stop.NoMemory P = Unit {0}
Stopped (stop.Fault f) P = P (fault f.kind f.left)

-- The outcome that a function returned, whose value is seen by view and what is left by rest, is as P says, unless memory ran out.
abbrev pub Gives : {X Y : Type 0} → (X → Y) → (X → Bytes) → Result X (Stop Fault) → (Outcome Y → Type 0) → Type 0
Gives view rest (Ok x) P = P (done (view x) (rest x))
Gives view rest (Err e) P = Stopped e P

-- The same for a function that returns None exactly where no outcome is as P says.
abbrev pub GivesAny : {X Y : Type 0} → (X → Y) → (X → Bytes) → Result (Option X) (Stop Fault) → (Outcome Y → Type 0) → Type 0
GivesAny {X} {Y} view rest (Ok None) P = (o : Outcome Y) → P o → ⊥
GivesAny {X} {Y} view rest (Ok (Some x)) P = P (done (view x) (rest x))
GivesAny {X} {Y} view rest (Err e) P = Stopped e P
