-- Sets as the list of all that were made: of one that stands its name and fields, of a freed one nothing.
use Rattle.std.specs.Prelude.{ℕ, List, [], ◌∷◌, ◌++◌, Option, Some, None, slice_set}
use Rattle.std.specs.List.{slice_index_or}
use Rattle.std.specs.Option.{option_map_or}
use Rattle.txt_core.specs.Names.{Bytes}
use Rattle.ns_sets.specs.Fields.{Field}
use Rattle.ns_sets.specs.declared.set.Set.{Set}

-- the name of a set, where one stands
abbrev pub name_at : Option Set → Bytes
name_at slot = option_map_or (λ set. set.name) slot []

-- the fields of a set, where one stands
abbrev pub fields_at : Option Set → List Field
fields_at slot = option_map_or (λ set. set.fields) slot []

-- the same set with these fields
abbrev pub holding : Option Set → List Field → Option Set
holding slot fields = Some (record { name = name_at slot; fields = fields })

-- the set of this number, where there is one
abbrev pub set_of : List (Option Set) → ℕ → Option Set
set_of sets number = slice_index_or sets number None

-- its name
abbrev pub name_of : List (Option Set) → ℕ → Bytes
name_of sets number = name_at (set_of sets number)

-- its fields
abbrev pub fields_of : List (Option Set) → ℕ → List Field
fields_of sets number = fields_at (set_of sets number)

-- one more set behind all that were made
abbrev pub with_new : List (Option Set) → Bytes → List Field → List (Option Set)
with_new sets name fields = sets ++ Some (record { name = name; fields = fields }) ∷ []

-- these are the fields of the set of this number, and all else is as it was
abbrev pub with_fields : List (Option Set) → ℕ → List Field → List (Option Set)
with_fields sets number fields = slice_set sets number (holding (set_of sets number) fields)
