-- What a merge makes of fields.
use Rattle.std.specs.Prelude.{◌≡◌, ℕ, List, ◌++◌, find, count_by, if◌then◌else◌}
use Rattle.txt_core.specs.Names.{Bytes}
use Rattle.ns_sets.specs.Fields.{Field, exact, has_key, holds}

-- how often a key stands among the fields
abbrev pub times_of : List Field → Bytes → ℕ
times_of fields key = count_by (has_key exact key) fields

-- the fields are those of a merge: the high ones stand in front as they were; the first field of a key is the first
-- among the high ones, or else among the low ones; and a key that only the low ones have stands once
pub record IsMerge (high low fields : List Field) : Type 0 where
  pub front : (behind : List Field) × (fields ≡ high ++ behind)
  pub first : (key : Bytes) → find (has_key exact key) fields ≡ find (has_key exact key) (high ++ low)
  pub times : (key : Bytes) → times_of fields key ≡ (if holds exact high key then times_of high key else (if holds exact low key then 1 else 0))
