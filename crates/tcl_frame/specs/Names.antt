-- Names of variables. A name that ends in `)` and holds `(` means an element of an array: the array's name stands
-- before the first `(`, the index between it and the last byte. Any other name means a variable as a whole.
use Rattle.std.specs.Prelude.{ℕ, ◌≡◌, ◌+◌, ◌-◌, Bool, true, false, [], ◌∷◌, ◌++◌, length, take, position, nat_eq, slice_index, slice_range, Option, Some, None, if◌then◌else◌}
use Rattle.std.specs.List.{AllByRecursion}
use Rattle.txt_core.specs.Names.{Bytes}

-- whether a byte is `(`
abbrev pub is_opening : ℕ → Bool
is_opening byte = nat_eq byte 40

-- whether a byte is `)`
abbrev pub is_closing : ℕ → Bool
is_closing byte = nat_eq byte 41

-- what a name means
pub data Named : Type 0 where
  -- the variable of this name
  Whole : Bytes → Named
  -- in the array of the first name the element of this index
  Element : Bytes → Bytes → Named

-- whether a name ends in `)`
abbrev pub is_closed : Bytes → Bool
is_closed name = is_closing (slice_index name (length name - 1))

-- the meaning of a name that ends in `)`, by the place of its first `(`
abbrev pub named_at : Bytes → Option ℕ → Named
named_at name None = Whole name
named_at name (Some at) = Element (take at name) (slice_range name (at + 1) (length name - 1))

-- the meaning of a name
abbrev pub named : Bytes → Named
named name = if is_closed name then named_at name (position is_opening name) else Whole name

-- the name of the variable itself, which is the array's for an element
abbrev pub variable_name : Named → Bytes
variable_name (Whole name) = name
variable_name (Element array index) = array

-- whether this is an element
abbrev pub is_element : Named → Bool
is_element (Whole name) = false
is_element (Element array index) = true

-- the name of an array's element: the array's name, `(`, the index and `)`
abbrev pub element_name : Bytes → Bytes → Bytes
element_name array index = array ++ 40 ∷ (index ++ 41 ∷ [])

-- no byte of a name is `(`
abbrev pub HoldsNoOpening : Bytes → Type 0
HoldsNoOpening name = AllByRecursion (λ byte. is_opening byte ≡ false) name
