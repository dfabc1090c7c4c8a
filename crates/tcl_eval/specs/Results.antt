-- Codes with results.
use Rattle.std.specs.Prelude.{ℕ, [], length, ◌==◌, if◌then◌else◌, ◌||◌, codes, Option, Some, None}
use Rattle.txt_core.specs.Names.{Bytes, Words}
use Rattle.tcl_frame.specs.declared.fault.VarFault.{VarFault}
use Rattle.tcl_frame.specs.Stack.{Stack}
use Rattle.tcl_frame.specs.Frames.{read_of, read_fault, write_fault, written}
use Rattle.tcl_eval.specs.declared.stack.Ended.{Ended}
use Rattle.tcl_eval.specs.Words.{arg}
pub use Rattle.tcl_frame.specs.Names.{element_name}
use Rattle.txt_core.specs.Limits.{is_long}
use Rattle.txt_core.specs.ErrorTexts.{wrong_words as wrong_count}
use Rattle.tcl_host.specs.Codes as code_of
use Rattle.tcl_eval.specs.Messages.{too_long, outside_loop, variable_fault}

-- ---- codes with results

-- these have a code and a result
abbrev pub ended : ℕ → Bytes → Ended
ended code result = record { code = code; result = result }

-- the text of an error that is too long is another one
abbrev pub shortened : Bytes → Bytes
shortened message = if is_long message then too_long else message

-- an error with this text
abbrev pub error_of : Bytes → Ended
error_of message = ended code_of.error (shortened message)

-- a built-in has the wrong number of words
abbrev pub wrong_words_end : Words → Ended
wrong_words_end words = error_of (wrong_count (arg words 0))

-- `return ?value?`: a return, with the value where there is one
abbrev pub return_of : Words → Ended
return_of words = if (length words == 1) || (length words == 2) then ended code_of.return (arg words 1) else wrong_words_end words

-- `error text`: an error, with the text as it stands
abbrev pub raised_of : Words → Ended
raised_of words = if length words == 2 then ended code_of.error (arg words 1) else wrong_words_end words

-- `break` and `continue`: a break and a continue, with no result
abbrev pub break_of : Words → Ended
break_of words = if length words == 1 then ended code_of.break [] else wrong_words_end words

abbrev pub continue_of : Words → Ended
continue_of words = if length words == 1 then ended code_of.continue [] else wrong_words_end words

-- A procedure ends: a return becomes a good end, a break and a continue become errors, and any other code is handed on.
abbrev pub returned : ℕ → Bytes → Ended
returned code result =
    if code == code_of.break then error_of (outside_loop (codes "break"))
    else if code == code_of.continue then error_of (outside_loop (codes "continue"))
    else ended (if code == code_of.return then code_of.ok else code) result

-- ---- variables

abbrev pub result_or_fault : Option VarFault → Bytes → Bytes → Ended
result_or_fault None name result = ended code_of.ok result
result_or_fault (Some why) name result = error_of (variable_fault why name)

-- a variable is read; a refusal is an error
abbrev pub read_as : Stack → Bytes → Ended
read_as frames name = result_or_fault (read_fault frames name) name (read_of frames name)

-- A variable is to be written, and then this is the result; a value that is too long, and then a refusal, is an error.
abbrev pub stored_of : Stack → Bytes → Bytes → Bytes → Ended
stored_of frames name value result =
    if is_long value then ended code_of.error too_long else result_or_fault (write_fault frames name) name result

abbrev pub written_or_same : Option VarFault → Stack → Bytes → Bytes → Stack
written_or_same None frames name value = written frames name value
written_or_same (Some why) frames name value = frames

-- the variables after that; an error changes nothing
abbrev pub stored : Stack → Bytes → Bytes → Stack
stored frames name value =
    if is_long value then frames else written_or_same (write_fault frames name) frames name value
