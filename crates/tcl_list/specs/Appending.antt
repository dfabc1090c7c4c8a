-- What stands behind an element, and elements as they stand behind a list.
use Rattle.std.specs.Prelude.{◌≡◌, [], ◌∷◌, ◌++◌}
use Rattle.txt_core.specs.Names.{Bytes, Words}
use Rattle.txt_core.specs.Quoting.{written}

-- the text begins with an element as it is written, and this is left behind it
abbrev pub Begins : Bytes → Bytes → Type 0
Begins t rest = (x : Bytes) × (t ≡ written x ++ rest)

-- elements as they are written, each behind a space
abbrev pub spaced : Words → Bytes
spaced [] = []
spaced (x ∷ v) = 32 ∷ (written x ++ spaced v)
