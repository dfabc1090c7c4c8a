-- What the program answers, in the words of the rules.
use Rattle.std.specs.Prelude.{◌≡◌, ℕ, ◌+◌, ◌<◌, [], ◌∷◌, ◌++◌, true, length, Result, Ok, Err}
use Rattle.txt_core.specs.Names.{Bytes, Words}
use Rattle.txt_core.specs.Forms.{form_of}
use Rattle.txt_core.specs.Lists.{Outcome, done, bad, Step, ends, bytes, BytesAt, elements, bad_at}
use Rattle.txt_core.specs.Listing.{close_quote, listing}
use Rattle.txt_core.specs.Quoting.{quoting}
use Rattle.txt_core.specs.declared.stop.Stop.{Stop}
use Rattle.txt_core.specs.declared.stop.Stop.TheVariants as stop
use Rattle.tcl_list.specs.declared.element.Step as code_step
use Rattle.tcl_list.specs.declared.element.Step.TheVariants as code_steps
use Rattle.tcl_list.specs.declared.fault.ListFault.{ListFault}
use Rattle.tcl_list.specs.declared.fault.ListFault.TheVariants as list_fault

-- What split answers: the list of the text, or the place where it is bad. Want of memory is free.
abbrev pub SplitsAs : Bytes → Result Words ListFault → Type 0
SplitsAs t (Ok v) = listing t ≡ elements v
SplitsAs t (Err (list_fault.Bad at)) = listing t ≡ bad_at at
SplitsAs t (Err list_fault.NoMemory) = Unit {0}

-- What append_elements answers: the text of the list's elements and, behind them, of these, or the place where the list
-- is bad. Want of memory is free.
abbrev pub AppendsTo : Bytes → Words → Result Bytes ListFault → Type 0
AppendsTo t v (Ok out) = (w : Words) × (listing t ≡ elements w) × (out ≡ quoting (w ++ v))
AppendsTo t v (Err (list_fault.Bad at)) = listing t ≡ bad_at at
AppendsTo t v (Err list_fault.NoMemory) = Unit {0}

-- a step of the program, as one of the rules
abbrev pub step_of : code_step.Step → Step
step_of code_steps.Ends = ends
step_of (code_steps.Byte b t) = bytes (b ∷ []) t.now
step_of (code_steps.Escaped f t) = bytes (form_of f) t.now

-- fewer than n bytes are left behind a step
abbrev pub IsShorter : ℕ → code_step.Step → Type 0
IsShorter n code_steps.Ends = Unit {0}
IsShorter n (code_steps.Byte b t) = length t.now < n
IsShorter n (code_steps.Escaped f t) = length t.now < n

-- where reading stopped for a bad place, that is the outcome
abbrev pub Stopped : {Y : Type 0} → Stop ℕ → (Outcome Y → Type 0) → Type 0
Stopped stop.NoMemory P = Unit {0}
Stopped (stop.Fault n) P = P (bad n)

-- a value with what is left of it, or where reading stopped, as an outcome
abbrev pub Gives : {X Y : Type 0} → (X → Y) → (X → Bytes) → Result X (Stop ℕ) → (Outcome Y → Type 0) → Type 0
Gives view rest (Ok x) P = P (done (view x) (rest x))
Gives view rest (Err e) P = Stopped e P

-- what comes of an element in quotes, by its bytes and what is left behind them
abbrev pub QuoteGives : Bytes → Outcome Bytes → Type 0
QuoteGives t o = (x : Bytes) × (r : Bytes) × BytesAt true t x r × (o ≡ close_quote (length t + 1) x r)
