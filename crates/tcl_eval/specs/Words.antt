-- The words of a command.
use Rattle.std.specs.Prelude.{codes}
use Rattle.txt_core.specs.Names.{Bytes, Words}
use Rattle.natives.specs.Lists.{joined as joined_by}
pub use Rattle.natives.specs.Words.{arg}

-- words joined by a space
abbrev pub joined : Words → Bytes
joined words = joined_by (codes " ") words
