-- Names of variables, and what they mean.
use Rattle.std.specs.Prelude.{ℕ, ◌+◌, ◌-◌, [], length, take, drop, Option, Some, None, ◌==◌, if◌then◌else◌, slice_index_or}
use Rattle.std.specs.List.{prefix_len, position}
use Rattle.std.specs.Option.{option_map}
use Rattle.txt_core.specs.Names.{Bytes}
use Rattle.tcl_parse.specs.Bytes.{left_parenthesis, right_parenthesis, is_name}
use Rattle.tcl_parse.specs.Tree.{Part, variable, element, parts, literal}

-- The name at the front, which is as long as letters, digits and underscores go, and what is left behind it.
abbrev pub name_at : Bytes → Bytes × Bytes
name_at t = (take (prefix_len is_name t) t, drop (prefix_len is_name t) t)

-- What stands before the first such byte, and what is left behind it.
abbrev pub up_to : ℕ → Bytes → Option (Bytes × Bytes)
up_to c t = option_map (λ i. (take i t, drop (i + 1) t)) (position (λ b. b == c) t)

-- The array and the index, of the bytes on both sides of the first opening parenthesis: these end in a closing parenthesis, before which the index stands.
abbrev pub with_index : Option (Bytes × Bytes) → Option (Bytes × Bytes)
with_index None = None
with_index (Some x) = if slice_index_or x.1 (length x.1 - 1) 0 == right_parenthesis then Some (x.0, take (length x.1 - 1) x.1) else None

-- A name that ends in `)` and holds `(` has the form of an array's element: the array's name stands before the first `(`, and the index between it and the last byte.
abbrev pub element_parts : Bytes → Option (Bytes × Bytes)
element_parts x = with_index (up_to left_parenthesis x)

abbrev pub part_by : Bytes → Option (Bytes × Bytes) → Part
part_by x None = variable x
part_by x (Some y) = element y.0 (parts (literal y.1 []))

-- What a name means: an element where it has the form of one, and its index is then taken as it stands; else a variable.
abbrev pub named_part : Bytes → Part
named_part x = part_by x (element_parts x)
