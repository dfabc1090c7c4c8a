-- Variables by name. Each is a scalar, which is a text, or an array, which has texts by index.
use Rattle.std.specs.Prelude.{Option, Some, None}
use Rattle.std.specs.Ordering.{nat_cmp}
use Rattle.std.specs.Cmp.Lexicographic.{slice_cmp}
use Rattle.std.specs.FinMap as map
use Rattle.txt_core.specs.Names.{Bytes, Words}
use Rattle.txt_core.specs.Keyed.{with_pairs}
use Rattle.tcl_frame.specs.declared.variable.Variable.{Variable}
use Rattle.tcl_frame.specs.declared.variable.Variable.TheVariants.{Scalar, Array}
use Rattle.tcl_frame.specs.Names.{Named, Whole, Element}

-- the texts of an array by index, in byte order of the indexes
abbrev pub Elements : Type 0
Elements = map.FinMap (slice_cmp nat_cmp) Bytes

-- the texts of scalars by name
abbrev pub Scalars : Type 0
Scalars = map.FinMap (slice_cmp nat_cmp) Bytes

-- variables by name
abbrev pub Table : Type 0
Table = map.FinMap (slice_cmp nat_cmp) Variable

-- the elements of a variable that is an array, and none of any other
abbrev pub elements_in : Option Variable → Elements
elements_in None = map.empty
elements_in (Some (Scalar value)) = map.empty
elements_in (Some (Array elements)) = elements

-- with this value at the name: a scalar, or an element of an array, which is made where it is absent
abbrev pub with_value : Table → Named → Bytes → Table
with_value table (Whole name) value = map.insert table name (Scalar value)
with_value table (Element array index) value =
    map.insert table array (Array (map.insert (elements_in (map.get table array)) index value))

-- without the variable or the element of the name. An array stays when its last element goes
abbrev pub without : Table → Named → Table
without table (Whole name) = map.remove table name
without table (Element array index) =
    map.insert table array (Array (map.remove (elements_in (map.get table array)) index))

-- with these indexes and values in the array of this name, which has no others where it is made
abbrev pub with_array : Table → Bytes → Words → Table
with_array table name pairs = map.insert table name (Array (with_pairs (elements_in (map.get table name)) pairs))
