-- The words of a list of words.
use Rattle.std.specs.Prelude.{ℕ, [], slice_index_or}
use Rattle.txt_core.specs.Names.{Bytes, Words}

-- the word at a place, counted from 0, which is a command's name; the empty word behind the last
abbrev pub arg : Words → ℕ → Bytes
arg words at = slice_index_or words at []
