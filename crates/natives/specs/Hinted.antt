-- Where the native of a name stands among natives, as a table tells in which each name has a place.
use Rattle.std.specs.Prelude.{◌≡◌, ℕ, ◌+◌, List, Bool, true, ◌==◌, ◌||◌, ◌&&◌, nat_lt, if◌then◌else◌, Some, slice_get, slice_index}
use Rattle.txt_core.specs.Names.{Bytes, Names}
use Rattle.natives.specs.Hints.{hint_place}

-- a hint tells of one native where it stands, counted from 1, or with 255 that it may be anywhere
abbrev pub tells : ℕ → ℕ → Bool
tells hint at = hint == at + 1 || hint == 255

-- the hint once a native stands here too
abbrev pub next_hint : ℕ → ℕ → ℕ
next_hint before at = if before == 0 && nat_lt at 254 then at + 1 else 255

-- the hint at each name's place tells where the name stands
abbrev pub AreHinted : List ℕ → Names → Type 0
AreHinted hints names = (at : ℕ) (name : Bytes) → slice_get names at ≡ Some name → tells (slice_index hints (hint_place name)) at ≡ true
