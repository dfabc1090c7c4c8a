-- What a name finds among variables, and which calls that refuses.
use Rattle.std.specs.Prelude.{Bool, true, false, [], Option, Some, None}
use Rattle.std.specs.FinMap as map
use Rattle.txt_core.specs.Names.{Bytes}
use Rattle.tcl_frame.specs.declared.variable.Variable.{Variable}
use Rattle.tcl_frame.specs.declared.variable.Variable.TheVariants.{Scalar, Array}
use Rattle.tcl_frame.specs.declared.fault.VarFault.{VarFault}
use Rattle.tcl_frame.specs.declared.fault.VarFault.TheVariants.{NoVariable, IsArray, NotArray}
use Rattle.tcl_frame.specs.Names.{Named, Whole, Element}
use Rattle.tcl_frame.specs.Variables.{Table, Elements}

-- what a name finds
pub data Found : Type 0 where
  -- no variable, no array or no element of this name
  Nothing : Found
  -- the value of a scalar, or of an element
  Value : Bytes → Found
  -- an array as a whole
  AnArray : Elements → Found
  -- an element's name whose array's name is a scalar
  InScalar : Found

-- what the name of a whole variable finds there
abbrev pub whole : Option Variable → Found
whole None = Nothing
whole (Some (Scalar value)) = Value value
whole (Some (Array elements)) = AnArray elements

-- what an array has at an index
abbrev pub value_or_nothing : Option Bytes → Found
value_or_nothing None = Nothing
value_or_nothing (Some value) = Value value

-- what an index finds in the variable of the array's name
abbrev pub element : Option Variable → Bytes → Found
element None index = Nothing
element (Some (Scalar value)) index = InScalar
element (Some (Array elements)) index = value_or_nothing (map.get elements index)

-- what a name finds among variables
abbrev pub found : Table → Named → Found
found table (Whole name) = whole (map.get table name)
found table (Element array index) = element (map.get table array) index

-- whether a scalar, an array or an element is there
abbrev pub is_there : Found → Bool
is_there Nothing = false
is_there (Value value) = true
is_there (AnArray elements) = true
is_there InScalar = false

-- whether an array is there
abbrev pub is_array_there : Found → Bool
is_array_there Nothing = false
is_array_there (Value value) = false
is_array_there (AnArray elements) = true
is_array_there InScalar = false

-- the value that is there
abbrev pub value_there : Found → Bytes
value_there Nothing = []
value_there (Value value) = value
value_there (AnArray elements) = []
value_there InScalar = []

-- the elements of the array that is there
abbrev pub elements_there : Found → Elements
elements_there Nothing = map.empty
elements_there (Value value) = map.empty
elements_there (AnArray elements) = elements
elements_there InScalar = map.empty

-- why a read is refused, if it is
abbrev pub no_read : Found → Option VarFault
no_read Nothing = Some NoVariable
no_read (Value value) = None
no_read (AnArray elements) = Some IsArray
no_read InScalar = Some NotArray

-- why a write is refused, if it is
abbrev pub no_write : Found → Option VarFault
no_write Nothing = None
no_write (Value value) = None
no_write (AnArray elements) = Some IsArray
no_write InScalar = Some NotArray

-- why a removal is refused, if it is
abbrev pub no_removal : Found → Option VarFault
no_removal Nothing = Some NoVariable
no_removal (Value value) = None
no_removal (AnArray elements) = None
no_removal InScalar = Some NotArray

-- why no array can be written there, if none can
abbrev pub no_array : Found → Option VarFault
no_array Nothing = None
no_array (Value value) = Some NotArray
no_array (AnArray elements) = None
no_array InScalar = Some NotArray
