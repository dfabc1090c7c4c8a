-- The words of a command.
use Rattle.std.specs.Prelude.{ℕ, [], ◌∷◌, slice_get, Option, None, Some}
use Rattle.txt_core.specs.Names.{Bytes, Words}
pub use Rattle.txt_core.specs.Words.{arg}

-- the word at a place, or what stands for one that is left out
abbrev pub given_or : Option Bytes → Bytes → Bytes
given_or None text = text
given_or (Some word) text = word

abbrev pub arg_or : Words → ℕ → Bytes → Bytes
arg_or words at text = given_or (slice_get words at) text

-- the set of bytes that is meant where none is given: space, tab, newline and carriage return
abbrev pub usual_chars : Bytes
usual_chars = 32 ∷ 9 ∷ 10 ∷ 13 ∷ []
