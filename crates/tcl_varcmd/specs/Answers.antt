-- What a command comes to, and what the program answers for it.
use Rattle.std.specs.Prelude.{◌≡◌, ◌≢◌, Option, Some, None, Result, Ok, Err}
use Rattle.txt_core.specs.Names.{Bytes}
use Rattle.tcl_frame.specs.declared.fault.VarFault.{VarFault}
use Rattle.tcl_frame.specs.declared.fault.VarFault.TheVariants as faults
use Rattle.tcl_frame.specs.FaultTexts.{variable_fault}
use Rattle.tcl_frame.specs.Stack.{Stack}
use Rattle.natives.specs.declared.fault.Fault.{Fault}
use Rattle.natives.specs.declared.fault.Fault.TheVariants.{Error, NoMemory}

-- what a command comes to
pub data Came : Type 0 where
  -- a result, and the frames after it
  gives : Bytes → Stack → Came
  -- an error's text, and the frames after it
  fails : Bytes → Stack → Came

-- where a check finds an error, the command fails with it and the frames are as they were; else it goes on
abbrev pub unless : Option Bytes → Stack → Came → Came
unless None stack came = came
unless (Some text) stack came = fails text stack

-- the answer is what the command comes to, with its frames. Want of memory is free
abbrev pub IsAnswer : Result Bytes Fault → Came → Stack → Type 0
IsAnswer (Ok result) (gives text stack) new = (result ≡ text) × (new ≡ stack)
IsAnswer (Ok result) (fails text stack) new = ⊥
IsAnswer (Err (Error error)) (gives text stack) new = ⊥
IsAnswer (Err (Error error)) (fails text stack) new = (error ≡ text) × (new ≡ stack)
IsAnswer (Err NoMemory) came new = Unit {0}

-- the program answers what the command comes to, and leaves its frames
abbrev pub Answers : Came → Result Bytes Fault → Stack → Type 0
Answers came result new = IsAnswer result came new

-- where memory ran out, this holds
abbrev pub IfNoMemory : {A : Type 0} → Result A Fault → Type 0 → Type 0
IfNoMemory (Ok value) fact = Unit {0}
IfNoMemory (Err (Error text)) fact = Unit {0}
IfNoMemory (Err NoMemory) fact = fact

-- a change answers its error exactly where there is one, and then changes nothing
abbrev pub Changes : Option Bytes → Stack → Stack → Result (Unit {0}) Fault → Stack → Type 0
Changes error after before (Ok done) new = (error ≡ None) × (new ≡ after)
Changes error after before (Err (Error text)) new = (error ≡ Some text) × (new ≡ before)
Changes error after before (Err NoMemory) new = new ≡ before

-- a variable of this name is refused: the error is the text of that, and memory ran out where that is why
abbrev pub Refuses : VarFault → Bytes → Fault → Type 0
Refuses why name (Error text) = (text ≡ variable_fault why name) × (why ≢ faults.NoMemory)
Refuses why name NoMemory = Unit {0}
