-- The commands on single variables.
use Rattle.std.specs.Prelude.{[], ◌∷◌, ◌++◌, drop, slice_get, ℤ, pos, ◌+ℤ◌, Option, Some, None, codes}
use Rattle.std.specs.Fmt.{signed_decimal}
use Rattle.std.specs.List.{concat}
use Rattle.txt_core.specs.Names.{Bytes, Words, Names}
use Rattle.txt_core.specs.Quoting.{quoting}
use Rattle.tcl_frame.specs.Stack.{Stack}
use Rattle.tcl_frame.specs.Frames.{read_of, written, removed, linked}
use Rattle.natives.specs.Words.{arg}
use Rattle.tcl_varcmd.specs.Answers.{Came, gives, unless}
use Rattle.natives.specs.Checks.{integer_error, integer, list_error, items}
use Rattle.tcl_varcmd.specs.Errors.{read_error, write_error, remove_error, global_error, count_error, least_error, sum_error, long_error}

-- a value is written, and is the result. One over the limit isn't written
abbrev pub stored : Stack → Bytes → Bytes → Came
stored stack name value =
    unless (long_error value) stack (unless (write_error stack name) stack (gives value (written stack name value)))

-- `set name ?value?`: reads the variable, or writes it
abbrev pub set_to : Stack → Bytes → Option Bytes → Came
set_to stack name None = unless (read_error stack name) stack (gives (read_of stack name) stack)
set_to stack name (Some value) = stored stack name value

abbrev pub set_came : Stack → Words → Came
set_came stack words = unless (count_error 2 3 words (codes "set")) stack (set_to stack (arg words 1) (slice_get words 2))

-- `incr name ?n?`: the variable must be there and be a number, and then n, which is 1 where it is left out
abbrev pub step_error : Option Bytes → Option Bytes
step_error None = None
step_error (Some n) = integer_error n

abbrev pub step_of : Option Bytes → ℤ
step_of None = pos 1
step_of (Some n) = integer n

abbrev pub added : Stack → Bytes → ℤ → Came
added stack name sum = unless (sum_error sum) stack (stored stack name (signed_decimal sum))

abbrev pub incr_by : Stack → Bytes → Option Bytes → Came
incr_by stack name n =
    unless (read_error stack name) stack (
    unless (integer_error (read_of stack name)) stack (
    unless (step_error n) stack (added stack name (integer (read_of stack name) +ℤ step_of n))))

abbrev pub incr_came : Stack → Words → Came
incr_came stack words = unless (count_error 2 3 words (codes "incr")) stack (incr_by stack (arg words 1) (slice_get words 2))

-- `append name value*`: puts the values behind the variable's own, which is empty where it is absent
abbrev pub append_to : Stack → Bytes → Words → Came
append_to stack name values = unless (write_error stack name) stack (stored stack name (read_of stack name ++ concat values))

abbrev pub append_came : Stack → Words → Came
append_came stack words = unless (least_error 2 words (codes "append")) stack (append_to stack (arg words 1) (drop 2 words))

-- `lappend name value*`: the same on a list, which is quoted anew
abbrev pub lappend_to : Stack → Bytes → Words → Came
lappend_to stack name values =
    unless (write_error stack name) stack (
    unless (list_error (read_of stack name)) stack (stored stack name (quoting (items (read_of stack name) ++ values))))

abbrev pub lappend_came : Stack → Words → Came
lappend_came stack words = unless (least_error 2 words (codes "lappend")) stack (lappend_to stack (arg words 1) (drop 2 words))

-- `unset name name*`: removes one after the other, up to the first that can't be
abbrev pub unset_all : Stack → Names → Came
unset_all stack [] = gives [] stack
unset_all stack (name ∷ names) = unless (remove_error stack name) stack (unset_all (removed stack name) names)

abbrev pub unset_came : Stack → Words → Came
unset_came stack words = unless (least_error 2 words (codes "unset")) stack (unset_all stack (drop 1 words))

-- `global name name*`: links one after the other to the global variable of its name, up to the first that can't be
abbrev pub global_all : Stack → Names → Came
global_all stack [] = gives [] stack
global_all stack (name ∷ names) = unless (global_error stack name) stack (global_all (linked stack name) names)

abbrev pub global_came : Stack → Words → Came
global_came stack words = unless (least_error 2 words (codes "global")) stack (global_all stack (drop 1 words))
