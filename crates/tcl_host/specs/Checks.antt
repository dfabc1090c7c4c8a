-- What the commands of a host, whose state is an H, look at before they do anything, and how they end. The first word is the
-- command's name.
use Rattle.std.specs.Prelude.{ℕ, ℤ, Bool, length, nat_le, ◌&&◌, if◌then◌else◌, Result}
use Rattle.txt_core.specs.Names.{Bytes, Words}
use Rattle.txt_core.specs.Number.{number}
use Rattle.txt_core.specs.ErrorTexts.{wrong_words, unknown_subcommand, bad_value}
use Rattle.natives.specs.Words.{arg}
use Rattle.natives.specs.Checks.{numbered}
use Rattle.tcl_host.specs.Codes as code_of
use Rattle.tcl_host.specs.Leaf.{Leaf, says}

-- a good end with this result
abbrev pub gives : {H : Type 0} → Bytes → H → Leaf H
gives result host = says code_of.ok result host

-- an error with this text, and nothing is changed
abbrev pub fails : {H : Type 0} → Bytes → H → Leaf H
fails message host = says code_of.error message host

-- the command goes on where a test is passed; where it isn't, that is the error
abbrev pub passing : {H : Type 0} → Bool → Bytes → (H → Leaf H) → H → Leaf H
passing test message does host = if test then does host else fails message host

-- so many words, with the command's name among them, are from the least to the most
abbrev pub is_counted : ℕ → ℕ → Words → Bool
is_counted least most words = nat_le least (length words) && nat_le (length words) most

-- the number of words is right
abbrev pub shaped : {H : Type 0} → Bool → Words → (H → Leaf H) → H → Leaf H
shaped right words does host = passing right (wrong_words (arg words 0)) does host

-- the second word is none of the command's subcommands
abbrev pub no_subcommand : {H : Type 0} → Words → H → Leaf H
no_subcommand words host = fails (unknown_subcommand (arg words 1) (arg words 0)) host

-- the word at this place is one that the command can't take
abbrev pub unfit : Words → ℕ → Bytes
unfit words place = bad_value (arg words place) (arg words 0)

-- the command can take the word at this place
abbrev pub fitting : {H : Type 0} → Bool → Words → ℕ → (H → Leaf H) → H → Leaf H
fitting fit words place does host = passing fit (unfit words place) does host

-- the word at this place is a number, or that is the error
abbrev pub integer : Words → ℕ → Result ℤ Bytes
integer words place = numbered (number (arg words place)) (arg words place)
