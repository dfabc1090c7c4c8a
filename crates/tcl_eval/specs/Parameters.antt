-- The parameters of procedures, and the words of a call.
use Rattle.std.specs.Prelude.{Bool, false, List, [], ◌∷◌, length, ◌==◌, Option, Some, None, Result, Ok, Err, bytes_eq, codes, if◌then◌else◌}
use Rattle.txt_core.specs.Names.{Bytes, Words, Pairs}
use Rattle.txt_core.specs.Lists.{Listing, elements, bad_at}
use Rattle.txt_core.specs.Listing.{listing}
use Rattle.txt_core.specs.Quoting.{quoting}
use Rattle.tcl_eval.specs.declared.parameter.Parameter.{Parameter}
use Rattle.tcl_eval.specs.Words.{arg}
use Rattle.txt_core.specs.ErrorTexts.{wrong_words as wrong_count}
use Rattle.tcl_eval.specs.Messages.{bad_value, no_list}

abbrev pub parameter_of : Listing → Option Parameter
parameter_of (bad_at place) = None
parameter_of (elements words) =
    if length words == 1 then Some (record { name = arg words 0; default = None })
    else if length words == 2 then Some (record { name = arg words 0; default = Some (arg words 1) })
    else None

-- a parameter is a text that, as a list, is a name, or a name and a default
abbrev pub parameter : Bytes → Option Parameter
parameter text = parameter_of (listing text)

abbrev pub with_parameter : Parameter → Result (List Parameter) Bytes → Result (List Parameter) Bytes
with_parameter first (Ok rest) = Ok (first ∷ rest)
with_parameter first (Err message) = Err message

abbrev pub read_next : Bytes → Option Parameter → Result (List Parameter) Bytes → Result (List Parameter) Bytes
read_next text None rest = Err (bad_value text (codes "proc"))
read_next text (Some first) rest = with_parameter first rest

-- the parameters that these texts are; the first text that is none is an error
abbrev pub read_all : Words → Result (List Parameter) Bytes
read_all [] = Ok []
read_all (text ∷ texts) = read_next text (parameter text) (read_all texts)

abbrev pub parameters_of : Listing → Result (List Parameter) Bytes
parameters_of (elements texts) = read_all texts
parameters_of (bad_at place) = Err (no_list place)

-- The parameters of a procedure: a list of them. Else this is the error of `proc`, and of a call.
abbrev pub parameters : Bytes → Result (List Parameter) Bytes
parameters text = parameters_of (listing text)

-- names with their values
abbrev pub Values : Type 0
Values = Pairs

abbrev pub with_value : Bytes → Bytes → Option Values → Option Values
with_value name value None = None
with_value name value (Some rest) = Some ((name, value) ∷ rest)

abbrev pub with_default : Bytes → Option Bytes → Option Values → Option Values
with_default name None rest = None
with_default name (Some value) rest = with_value name value rest

-- whether a parameter takes all words that are left: it is the last one, and its name is `args`
abbrev pub takes_rest : Parameter → List Parameter → Bool
takes_rest parameter [] = bytes_eq parameter.name (codes "args")
takes_rest parameter (next ∷ more) = false

-- a parameter takes the next word, or its default where there is none; the others go on by `rest`
abbrev pub bind_next : Parameter → (Words → Option Values) → Words → Option Values
bind_next parameter rest [] = with_default parameter.name parameter.default (rest [])
bind_next parameter rest (word ∷ words) = with_value parameter.name word (rest words)

-- The values of parameters for these words, or none where the number of words is wrong. A last `args` takes the words that
-- are left as a list.
abbrev pub bind : List Parameter → Words → Option Values
bind [] [] = Some []
bind [] (word ∷ words) = None
bind (parameter ∷ more) words =
    if takes_rest parameter more then Some ((parameter.name, quoting words) ∷ [])
    else bind_next parameter (bind more) words

abbrev pub or_wrong_count : Bytes → Option Values → Result Values Bytes
or_wrong_count name None = Err (wrong_count name)
or_wrong_count name (Some values) = Ok values

abbrev pub bound_by : Result (List Parameter) Bytes → Bytes → Words → Result Values Bytes
bound_by (Err message) name words = Err message
bound_by (Ok all) name words = or_wrong_count name (bind all words)

-- The values of a procedure's parameters, by their text, in a call under this name with these words behind it; or the text of
-- the error. What is wrong with the parameters goes first.
abbrev pub bound : Bytes → Bytes → Words → Result Values Bytes
bound params name words = bound_by (parameters params) name words
