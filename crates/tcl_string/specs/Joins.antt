-- Texts joined one after another.
use Rattle.std.specs.Prelude.{◌++◌, Bool, true, false}
use Rattle.txt_core.specs.Names.{Bytes}

-- a text with a word behind it, and before this what stands between two, where it isn't the first
abbrev pub with_next : Bool → Bytes → Bytes → Bytes → Bytes
with_next true text between word = text ++ word
with_next false text between word = (text ++ between) ++ word
