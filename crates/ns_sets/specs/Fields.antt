-- The fields of a set: keys with their values, in order.
use Rattle.std.specs.Prelude.{ℕ, ℤ, pos, negsuc, Bool, List, [], ◌∷◌, ◌++◌, Option, Some, None, length, remove, find, position, fold, if◌then◌else◌}
use Rattle.std.specs.Str.{bytes_eq, str_eq_ignore_ascii_case}
use Rattle.std.specs.List.{list_any}
use Rattle.std.specs.Option.{option_map_or}
use Rattle.txt_core.specs.Names.{Bytes}

-- a field is a key and a value
abbrev pub Field : Type 0
Field = Bytes × Bytes

-- when two keys are the same
abbrev pub Sameness : Type 0
Sameness = Bytes → Bytes → Bool

-- where their bytes are the same
abbrev pub exact : Sameness
exact = bytes_eq

-- where they are the same but for the case of the letters A to Z
abbrev pub ignoring_case : Sameness
ignoring_case = str_eq_ignore_ascii_case

-- whether a field has this key
abbrev pub has_key : Sameness → Bytes → Field → Bool
has_key same key field = same field.0 key

-- the first place of a key among the fields, none where it is absent
abbrev pub place_of : Sameness → List Field → Bytes → Option ℕ
place_of same fields key = position (has_key same key) fields

-- a place as the commands write it: -1 where there is none
abbrev pub place_number : Option ℕ → ℤ
place_number None = negsuc 0
place_number (Some at) = pos at

-- the value of the first field of a key, the empty text where it is absent
abbrev pub value_of : Sameness → List Field → Bytes → Bytes
value_of same fields key = option_map_or (λ field. field.1) (find (has_key same key) fields) []

-- with one more field at the end
abbrev pub with_field : List Field → Bytes → Bytes → List Field
with_field fields key value = fields ++ (key, value) ∷ []

-- without the field at a place; all of them where there is no place
abbrev pub without_place : List Field → Option ℕ → List Field
without_place fields None = fields
without_place fields (Some at) = remove fields at

-- without the first field of a key; all of them where it is absent
abbrev pub without_first : Sameness → List Field → Bytes → List Field
without_first same fields key = without_place fields (place_of same fields key)

-- whether a field has the key
abbrev pub holds : Sameness → List Field → Bytes → Bool
holds same fields key = list_any (has_key same key) fields

-- with one more field at the end where its key is absent; the same fields where it isn't
abbrev pub with_absent : Sameness → List Field → Bytes → Bytes → List Field
with_absent same fields key value = if holds same fields key then fields else with_field fields key value

-- the place at which that field is put, -1 where it isn't
abbrev pub place_put : Sameness → List Field → Bytes → ℤ
place_put same fields key = if holds same fields key then negsuc 0 else pos (length fields)

-- the high fields, and behind them of the low ones, in order, each whose key is then absent
abbrev pub merged : List Field → List Field → List Field
merged high low = fold (λ fields field. with_absent exact fields field.0 field.1) high low
