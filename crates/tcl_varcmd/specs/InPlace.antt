-- What commands make of a variable's value in its place.
use Rattle.std.specs.Prelude.{◌≡◌, ◌++◌, Result, Ok, Err, Option, ◌+ℤ◌}
use Rattle.std.specs.Fmt.{signed_decimal}
use Rattle.txt_core.specs.Names.{Bytes, Words}
use Rattle.txt_core.specs.Quoting.{quoting}
use Rattle.natives.specs.declared.fault.Fault.{Fault}
use Rattle.natives.specs.Answers.{Reply, unless}
use Rattle.natives.specs.Checks.{integer_error, integer, list_error, items}
use Rattle.tcl_varcmd.specs.Errors.{sum_error, long_error}
use Rattle.tcl_varcmd.specs.Scalars.{step_error, step_of}

-- a value that is to be stored: itself, where it isn't over the limit
abbrev pub storing : Bytes → Reply
storing value = unless (long_error value) (Ok value)

-- a value to which a number is added
abbrev pub adding : Bytes → Option Bytes → Reply
adding old n =
    unless (integer_error old) (
    unless (step_error n) (
    unless (sum_error (integer old +ℤ step_of n)) (storing (signed_decimal (integer old +ℤ step_of n)))))

-- a list at whose end values are put
abbrev pub lappending : Bytes → Words → Reply
lappending old values = unless (list_error old) (storing (quoting (items old ++ values)))

-- what stands in the place of a value afterwards: the result, and the value itself where there is none
abbrev pub Leaves : Bytes → Result Bytes Fault → Bytes → Type 0
Leaves old (Ok result) new = new ≡ result
Leaves old (Err fault) new = new ≡ old
