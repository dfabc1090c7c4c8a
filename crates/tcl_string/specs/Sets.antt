-- Sets of bytes, as one truth for each byte.
use Rattle.std.specs.Prelude.{ℕ, List, Bool, false, slice_index_or}

abbrev pub set_has : List Bool → ℕ → Bool
set_has holds b = slice_index_or holds b false
