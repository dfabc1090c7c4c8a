-- Options in front of a command's other words.
use Rattle.std.specs.Prelude.{ℕ, [], ◌∷◌, position, Bool, true, false, Option, None, Some, if◌then◌else◌, bytes_eq}
use Rattle.txt_core.specs.Names.{Bytes, Words}
use Rattle.txt_core.specs.ErrorTexts.{bad_value}
use Rattle.natives.specs.Words.{arg}

-- whether the last of two contrary options that stands among the options is this one; neither means the other
abbrev pub last_is : Bytes → Bytes → Bool → Words → Bool
last_is this other so [] = so
last_is this other so (word ∷ words) = last_is this other (if bytes_eq word this then true else if bytes_eq word other then false else so) words

-- the error of the word at this place, where one is no option
abbrev pub refused_at : Bytes → Words → Option ℕ → Option Bytes
refused_at command options None = None
refused_at command options (Some at) = Some (bad_value (arg options at) command)

-- The first word in an option's place that is none of the command's options is one that it can't take.
abbrev pub options_error : (Bytes → Bool) → Bytes → Words → Option Bytes
options_error is_other command options = refused_at command options (position is_other options)
