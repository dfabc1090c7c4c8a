-- The arrays of a bucket: a finite map from names to arrays, each a finite map from keys to values.
use Rattle.std.specs.Prelude.{[], Option}
use Rattle.std.specs.FinMap as map
use Rattle.std.specs.FinMap.{FinMap}
use Rattle.std.specs.Option.{unwrap_or}
use Rattle.std.specs.BTreeMap.{BTreeMap}
use Rattle.txt_core.specs.Names.{Bytes}
pub use Rattle.txt_core.specs.Order.{text_cmp}

-- an array: at most one value for each key
abbrev pub Array : Type 0
Array = FinMap text_cmp Bytes

-- the arrays of a bucket, by name
abbrev pub Arrays : Type 0
Arrays = FinMap text_cmp Array

-- the array of this name; where there is none, one that holds no key
abbrev pub array_of : Arrays → Bytes → Array
array_of arrays name = unwrap_or (map.get arrays name) map.empty

-- the value of a key in the array of this name, where both stand
abbrev pub value_of : Arrays → Bytes → Bytes → Option Bytes
value_of arrays name key = map.get (array_of arrays name) key

-- the same arrays, but that the array of this name has this value at the key; an absent array is made
abbrev pub with_value : Arrays → Bytes → Bytes → Bytes → Arrays
with_value arrays name key value = map.insert arrays name (map.insert (array_of arrays name) key value)

-- the same arrays, but that the array of this name lacks the key; the array stays, also where it holds no key then
abbrev pub without_key : Arrays → Bytes → Bytes → Arrays
without_key arrays name key = map.insert arrays name (map.remove (array_of arrays name) key)

-- the value of a key in an array; the empty text where it is absent
abbrev pub text_at : Array → Bytes → Bytes
text_at array key = unwrap_or (map.get array key) []

-- the arrays that a map of the program holds
abbrev pub seen : BTreeMap Bytes Array → Arrays
seen held = map.from_entries held.entries
