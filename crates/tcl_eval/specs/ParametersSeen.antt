-- How the program's parameters are seen.
use Rattle.std.specs.Prelude.{◌≡◌, List, ◌++◌, Option, Some, None, Result, Ok, Err, Vec}
use Rattle.std.specs.declared.alloc.Global.{Global}
use Rattle.txt_core.specs.Names.{Bytes}
use Rattle.tcl_eval.specs.declared.parameter.Parameter.{Parameter}
use Rattle.tcl_eval.specs.Parameters.{Values, parameters}

-- parameters in a vector are those of a list, and an error is an error
abbrev pub ParametersAre : Result (Vec Parameter Global) Bytes → Result (List Parameter) Bytes → Type 0
ParametersAre (Ok found) meant = meant ≡ Ok found.items
ParametersAre (Err message) meant = meant ≡ Err message

-- what was read is of this text, and a message is the error that the text gives
abbrev pub ReadAs : Result Bytes Bytes → Bytes → Type 0
ReadAs (Ok read) text = read ≡ text
ReadAs (Err message) text = parameters text ≡ Err message

abbrev pub ValuesAre : Result Values Bytes → Result Values Bytes → Type 0
ValuesAre found meant = meant ≡ found

-- parameters in front of those that are still to be read
abbrev pub in_front : List Parameter → Result (List Parameter) Bytes → Result (List Parameter) Bytes
in_front first (Ok rest) = Ok (first ++ rest)
in_front first (Err message) = Err message

-- values in front of those that are still to be bound
abbrev pub ahead : Values → Option Values → Option Values
ahead first None = None
ahead first (Some rest) = Some (first ++ rest)
