-- Faults of variables as errors with their texts.
use Rattle.std.proofs.Common.{◌≡◌, ◌≢◌, ℕ, List, Option, Some, None, Result, Ok, Err, refl, sym, ◌∙◌, ap}
use Rattle.tcl_frame.specs.declared.fault.VarFault.{VarFault}
use Rattle.tcl_frame.specs.declared.fault.VarFault.TheVariants as faults
use Rattle.tcl_frame.specs.Stack.{Stack}
use Rattle.tcl_frame.specs.FaultTexts.{variable_fault}
use Rattle.tcl_frame.specs.Meaning.{Found, Nothing, Value, AnArray, InScalar, no_read, no_write, value_there}
use Rattle.tcl_frame.specs.Refusal.{IsRefusedFor}
use Rattle.natives.specs.declared.fault.Fault.{Fault}
use Rattle.natives.specs.declared.fault.Fault.TheVariants.{Error, NoMemory}
use Rattle.tcl_varcmd.specs.Errors.{refused}
use Rattle.natives.specs.Answers.{Tried, Says}
use Rattle.tcl_varcmd.specs.Answers.{Changes, Refuses}
use Rattle.tcl_varcmd.specs.Reading.{IsOrEmpty}

-- what is said of a fault
pub fault_said : (f : VarFault) (name : List ℕ) (x : Fault) → Refuses f name x → Says (variable_fault f name) x
fault_said f name (Error text) s = s.0
fault_said f name NoMemory s = tt

-- it is the error
pub error_said : (A : Type 0) (name : List ℕ) (fault : Option VarFault) (f : VarFault) (text : List ℕ) → IsRefusedFor {A = A} fault (Err f) → text ≡ variable_fault f name → f ≢ faults.NoMemory → refused name fault ≡ Some text
error_said A name fault faults.NoVariable text h s n = ap (refused name) h ∙ ap Some (sym s)
error_said A name fault faults.IsArray text h s n = ap (refused name) h ∙ ap Some (sym s)
error_said A name fault faults.NotArray text h s n = ap (refused name) h ∙ ap Some (sym s)
error_said A name fault faults.Exists text h s n = ap (refused name) h ∙ ap Some (sym s)
error_said A name fault faults.NoMemory text h s n = absurd (n refl)

pub tried_refused : (A B : Type 0) (P : B → Type 0) (name : List ℕ) (fault : Option VarFault) (f : VarFault) (x : Fault) → IsRefusedFor {A = A} fault (Err f) → Refuses f name x → Tried (refused name fault) P (Err x)
tried_refused A B P name fault f (Error text) h s = error_said A name fault f text h s.0 s.1
tried_refused A B P name fault f NoMemory h s = tt

pub changes_refused : (A : Type 0) (name : List ℕ) (fault : Option VarFault) (f : VarFault) (x : Fault) (after before new : Stack) → IsRefusedFor {A = A} fault (Err f) → Refuses f name x → new ≡ before → Changes (refused name fault) after before (Err x) new
changes_refused A name fault f (Error text) after before new h s same = (error_said A name fault f text h s.0 s.1, same)
changes_refused A name fault f NoMemory after before new h s same = same

-- ---- a variable that is to be written

pub writable_read : (found : Found) → no_read found ≡ None → no_write found ≡ None
writable_read Nothing h = absurd (cc)
writable_read (Value value) h = refl
writable_read (AnArray elements) h = absurd (cc)
writable_read InScalar h = absurd (cc)

-- what is read of a variable that is to be written, where the read is refused
pub or_empty_read : (A : Type 0) (name : List ℕ) (found : Found) (f : VarFault) (r : Result (List ℕ) Fault) → IsRefusedFor {A = A} (no_read found) (Err f) → IsOrEmpty f name r → Tried (refused name (no_write found)) (λ value. value ≡ value_there found) r
or_empty_read A name Nothing faults.NoVariable (Ok value) h s = (refl, s)
or_empty_read A name (Value value) faults.NoVariable r h s = absurd (cc)
or_empty_read A name (AnArray elements) faults.NoVariable r h s = absurd (cc)
or_empty_read A name InScalar faults.NoVariable r h s = absurd (cc)
or_empty_read A name Nothing faults.NoVariable (Err x) h s = absurd s
or_empty_read A name found faults.IsArray (Ok value) h s = absurd s
or_empty_read A name found faults.NotArray (Ok value) h s = absurd s
or_empty_read A name found faults.Exists (Ok value) h s = absurd s
or_empty_read A name found faults.NoMemory (Ok value) h s = absurd s
or_empty_read A name found faults.IsArray (Err NoMemory) h s = tt
or_empty_read A name found faults.NotArray (Err NoMemory) h s = tt
or_empty_read A name found faults.Exists (Err NoMemory) h s = tt
or_empty_read A name found faults.NoMemory (Err NoMemory) h s = tt
or_empty_read A name Nothing faults.IsArray (Err (Error text)) h s = absurd (cc)
or_empty_read A name (Value value) faults.IsArray (Err (Error text)) h s = absurd (cc)
or_empty_read A name (AnArray elements) faults.IsArray (Err (Error text)) h s = ap Some (sym s.0)
or_empty_read A name InScalar faults.IsArray (Err (Error text)) h s = absurd (cc)
or_empty_read A name Nothing faults.NotArray (Err (Error text)) h s = absurd (cc)
or_empty_read A name (Value value) faults.NotArray (Err (Error text)) h s = absurd (cc)
or_empty_read A name (AnArray elements) faults.NotArray (Err (Error text)) h s = absurd (cc)
or_empty_read A name InScalar faults.NotArray (Err (Error text)) h s = ap Some (sym s.0)
or_empty_read A name Nothing faults.Exists (Err (Error text)) h s = absurd (cc)
or_empty_read A name (Value value) faults.Exists (Err (Error text)) h s = absurd (cc)
or_empty_read A name (AnArray elements) faults.Exists (Err (Error text)) h s = absurd (cc)
or_empty_read A name InScalar faults.Exists (Err (Error text)) h s = absurd (cc)
or_empty_read A name found faults.NoMemory (Err (Error text)) h s = absurd (s.1 refl)
