-- The marks of blocks, and where a text has them.
use Rattle.std.specs.Prelude.{◌++◌, ◌≡◌, codes}
use Rattle.txt_core.specs.Names.{Bytes}

-- what opens a block
abbrev pub opening : Bytes
opening = codes "<%"

-- what closes it
abbrev pub closing : Bytes
closing = codes "%>"

-- a text has the mark somewhere
pub record Holds (text mark : Bytes) : Type 0 where
  pub before : Bytes
  pub behind : Bytes
  pub whole : text ≡ before ++ (mark ++ behind)
