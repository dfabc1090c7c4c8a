-- The checks of commands: each gives the text of its error, where it finds one.
use Rattle.std.specs.Prelude.{ℕ, nat_lt, length, ℤ, Option, Some, None, if◌then◌else◌, codes}
use Rattle.txt_core.specs.Names.{Bytes, Words}
use Rattle.txt_core.specs.Number.{fits}
use Rattle.tcl_frame.specs.declared.fault.VarFault.{VarFault}
use Rattle.tcl_frame.specs.Names.{named, is_element}
use Rattle.tcl_frame.specs.Stack.{Stack}
use Rattle.tcl_frame.specs.FaultTexts.{variable_fault}
use Rattle.tcl_frame.specs.Frames.{read_fault, write_fault, remove_fault, array_fault, link_fault}
use Rattle.txt_core.specs.Limits.{is_long}
use Rattle.txt_core.specs.ErrorTexts.{wrong_words, bad_value, too_long, overflow}

-- the text of a fault of a variable, where there is one
abbrev pub refused : Bytes → Option VarFault → Option Bytes
refused name None = None
refused name (Some fault) = Some (variable_fault fault name)

unfoldable pub read_error : Stack → Bytes → Option Bytes
read_error stack name = refused name (read_fault stack name)

unfoldable pub write_error : Stack → Bytes → Option Bytes
write_error stack name = refused name (write_fault stack name)

unfoldable pub remove_error : Stack → Bytes → Option Bytes
remove_error stack name = refused name (remove_fault stack name)

unfoldable pub array_error : Stack → Bytes → Option Bytes
array_error stack name = refused name (array_fault stack name)

-- a name that is made global: it must have no element's form, and be no variable of a procedure's or page's own
unfoldable pub global_error : Stack → Bytes → Option Bytes
global_error stack name = if is_element (named name) then Some (bad_value name (codes "global")) else refused name (link_fault stack name)

-- the number of words, the first one among them
unfoldable pub count_error : ℕ → ℕ → Words → Bytes → Option Bytes
count_error least most words command =
    if nat_lt (length words) least then Some (wrong_words command)
    else if nat_lt most (length words) then Some (wrong_words command)
    else None

-- the number of words where it has no upper bound
unfoldable pub least_error : ℕ → Words → Bytes → Option Bytes
least_error least words command = if nat_lt (length words) least then Some (wrong_words command) else None

unfoldable pub sum_error : ℤ → Option Bytes
sum_error sum = if fits sum then None else Some overflow

-- a value over the limit
unfoldable pub long_error : Bytes → Option Bytes
long_error value = if is_long value then Some too_long else None
