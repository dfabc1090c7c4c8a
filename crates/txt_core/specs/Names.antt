-- What the numbers of a contract are: bytes, texts, words, names and moments.
use Rattle.std.specs.Prelude.{ℕ, List}

-- a text: its bytes, each of them a number below 256
abbrev pub Bytes : Type 0
Bytes = List ℕ

-- words: texts one behind the other, as those of a command or a list
abbrev pub Words : Type 0
Words = List Bytes

-- names: words that name something, as commands, variables or natives
abbrev pub Names : Type 0
Names = List Bytes

-- pairs of texts, as names with their values
abbrev pub Pairs : Type 0
Pairs = List (Bytes × Bytes)

-- a moment: the seconds since the beginning of 1970
abbrev pub Moment : Type 0
Moment = ℕ
