-- What a command comes to, and what the program answers for it.
use Rattle.std.specs.Prelude.{◌≡◌, Bool, false, Option, None, Some, Result, Ok, Err, if◌then◌else◌}
use Rattle.std.specs.Coded.{Coded-set, coded_list, coded_ℕ, Unit-prop}
use mathlib.Core.HLevel.{⊥_prop}
use Rattle.txt_core.specs.Names.{Bytes}
use Rattle.txt_core.specs.ErrorTexts.{too_long}
use Rattle.txt_core.specs.Limits.{is_long}
use Rattle.natives.specs.declared.fault.Fault.{Fault}
use Rattle.natives.specs.declared.fault.Fault.TheVariants.{Error, NoMemory}

-- what a command comes to: a result, or the text of an error
abbrev pub Reply : Type 0
Reply = Result Bytes Bytes

-- where a check finds an error, the command comes to it; else it goes on
abbrev pub unless : Option Bytes → Reply → Reply
unless None reply = reply
unless (Some text) reply = Err text

-- a result or an error's text over the limit is an error of its own
abbrev pub limited : Reply → Reply
limited (Ok text) = if is_long text then Err too_long else Ok text
limited (Err text) = if is_long text then Err too_long else Err text

-- whether an answer has a text over the limit: a result or an error's text
abbrev pub has_long_text : Result Bytes Fault → Bool
has_long_text (Ok text) = is_long text
has_long_text (Err (Error text)) = is_long text
has_long_text (Err NoMemory) = false

-- the program answers what the command comes to. Want of memory is free
abbrev pub Answers : Reply → Result Bytes Fault → Type 0
Answers (Ok text) (Ok result) = result ≡ text
Answers (Ok text) (Err (Error error)) = ⊥
Answers (Ok text) (Err NoMemory) = Unit {0}
Answers (Err text) (Ok result) = ⊥
Answers (Err text) (Err (Error error)) = error ≡ text
Answers (Err text) (Err NoMemory) = Unit {0}

-- what is said is this text, or memory ran out
abbrev pub Says : Bytes → Fault → Type 0
Says text (Error error) = error ≡ text
Says text NoMemory = Unit {0}

-- a check answers its error exactly where there is one, and else a value of which something holds
abbrev pub Tried : {A : Type 0} → Option Bytes → (A → Type 0) → Result A Fault → Type 0
Tried error P (Ok value) = (error ≡ None) × P value
Tried error P (Err (Error text)) = error ≡ Some text
Tried error P (Err NoMemory) = Unit {0}

-- two texts are equal in one way at most
texts_set : IsSet Bytes
texts_set = Coded-set (coded_list coded_ℕ)

-- there is one proof of it at most, so that a value can keep it
pub Answers-prop : (reply : Reply) (result : Result Bytes Fault) → IsProp (Answers reply result)
Answers-prop (Ok text) (Ok result) = texts_set result text
Answers-prop (Ok text) (Err (Error error)) = ⊥_prop
Answers-prop (Ok text) (Err NoMemory) = Unit-prop
Answers-prop (Err text) (Ok result) = ⊥_prop
Answers-prop (Err text) (Err (Error error)) = texts_set error text
Answers-prop (Err text) (Err NoMemory) = Unit-prop
