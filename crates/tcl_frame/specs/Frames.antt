-- Frames of variables as a stack: the global variables, and above them frames, the topmost first.
use Rattle.std.specs.Prelude.{Bool, true, List, [], ◌∷◌, Option, Some, None, if◌then◌else◌}
use Rattle.std.specs.FinMap as map
use Rattle.txt_core.specs.Names.{Bytes, Words}
use Rattle.tcl_frame.specs.declared.frame.Frame.{Frame}
use Rattle.tcl_frame.specs.declared.fault.VarFault.{VarFault}
use Rattle.tcl_frame.specs.declared.fault.VarFault.TheVariants.{NotArray, Exists}
use Rattle.tcl_frame.specs.Names.{Named, named, variable_name, is_element}
use Rattle.tcl_frame.specs.Variables.{Table, Elements, with_value, without, with_array}
use Rattle.tcl_frame.specs.Meaning.{Found, found, is_there, is_array_there, value_there, elements_there, no_read, no_write, no_removal, no_array}
use Rattle.tcl_frame.specs.Stack.{Stack}

-- the global frame alone, without variables and base scalars
abbrev pub fresh : Stack
fresh = record { global = map.empty; above = []; keeps = [] }

-- a frame without variables and links
abbrev pub empty_frame : Frame
empty_frame = record { variables = map.empty; links = map.empty }

-- with one more frame, at the top
abbrev pub pushed : Stack → Stack
pushed stack = record stack { above = empty_frame ∷ stack.above }

-- the frames below the topmost
abbrev pub below_top : List Frame → List Frame
below_top [] = []
below_top (frame ∷ frames) = frames

-- without the topmost frame above the global one
abbrev pub popped : Stack → Stack
popped stack = record stack { above = below_top stack.above }

-- whether the topmost of these frames leaves a variable's name to the global variables: it links the name, or there is no such frame
abbrev pub links_name : List Frame → Bytes → Bool
links_name [] name = true
links_name (frame ∷ frames) name = map.contains_key frame.links name

-- the variables of the topmost of these frames
abbrev pub top_variables : List Frame → Table
top_variables [] = map.empty
top_variables (frame ∷ frames) = frame.variables

-- the frames, of which the topmost has these variables
abbrev pub with_top : List Frame → Table → List Frame
with_top [] table = []
with_top (frame ∷ frames) table = record frame { variables = table } ∷ frames

-- the variables among which the variable of this name is looked up
abbrev pub table_of : Stack → Bytes → Table
table_of stack name = if links_name stack.above name then stack.global else top_variables stack.above

-- the stack, in which these are the variables among which the variable of this name is looked up
abbrev pub with_table : Stack → Bytes → Table → Stack
with_table stack name table =
    if links_name stack.above name then record stack { global = table } else record stack { above = with_top stack.above table }

-- what a name finds
abbrev pub found_in : Stack → Named → Found
found_in stack name = found (table_of stack (variable_name name)) name

-- whether a scalar, an array or an element of this name is there
abbrev pub has : Stack → Bytes → Bool
has stack name = is_there (found_in stack (named name))

-- whether an array of this name is there
abbrev pub is_array : Stack → Bytes → Bool
is_array stack name = is_array_there (found_in stack (named name))

-- the elements of the array of this name, none where there is no array
abbrev pub elements_of : Stack → Bytes → Elements
elements_of stack name = elements_there (found_in stack (named name))

-- the value of this name, where a read of it isn't refused
abbrev pub read_of : Stack → Bytes → Bytes
read_of stack name = value_there (found_in stack (named name))

-- why a read of this name is refused, if it is
abbrev pub read_fault : Stack → Bytes → Option VarFault
read_fault stack name = no_read (found_in stack (named name))

-- why a write to this name is refused, if it is
abbrev pub write_fault : Stack → Bytes → Option VarFault
write_fault stack name = no_write (found_in stack (named name))

-- why a write to the global variable of this name is refused, if it is
abbrev pub global_fault : Stack → Bytes → Option VarFault
global_fault stack name = no_write (found stack.global (named name))

-- why a removal of this name is refused, if it is
abbrev pub remove_fault : Stack → Bytes → Option VarFault
remove_fault stack name = no_removal (found_in stack (named name))

-- why an array of this name can't be written, if it can't
abbrev pub array_fault : Stack → Bytes → Option VarFault
array_fault stack name = if is_element (named name) then Some NotArray else no_array (found_in stack (named name))

-- the stack after a value was written to a meaning
abbrev pub written_to : Stack → Named → Bytes → Stack
written_to stack name value = with_table stack (variable_name name) (with_value (table_of stack (variable_name name)) name value)

-- the stack after a meaning was removed
abbrev pub removed_from : Stack → Named → Stack
removed_from stack name = with_table stack (variable_name name) (without (table_of stack (variable_name name)) name)

-- after a write that isn't refused
abbrev pub written : Stack → Bytes → Bytes → Stack
written stack name value = written_to stack (named name) value

-- after a write to the global variable of this name that isn't refused
abbrev pub globally_written : Stack → Bytes → Bytes → Stack
globally_written stack name value = record stack { global = with_value stack.global (named name) value }

-- after a removal that isn't refused
abbrev pub removed : Stack → Bytes → Stack
removed stack name = removed_from stack (named name)

-- after indexes and values, which take turns in a list, were written to the array of this name, which is made where it is absent
abbrev pub pairs_written : Stack → Bytes → Words → Stack
pairs_written stack name pairs = with_table stack name (with_array (table_of stack name) name pairs)

-- why a link of this name is refused: the topmost frame has a variable of this name
abbrev pub no_link : List Frame → Bytes → Option VarFault
no_link [] name = None
no_link (frame ∷ frames) name = if map.contains_key frame.variables name then Some Exists else None

-- why a link of this name is refused, if it is. In the global frame it never is
abbrev pub link_fault : Stack → Bytes → Option VarFault
link_fault stack name = no_link stack.above name

-- the frames, of which the topmost links this name
abbrev pub with_link : List Frame → Bytes → List Frame
with_link [] name = []
with_link (frame ∷ frames) name = record frame { links = map.insert frame.links name tt } ∷ frames

-- after a link that isn't refused, which in the global frame changes nothing
abbrev pub linked : Stack → Bytes → Stack
linked stack name = record stack { above = with_link stack.above name }

-- the frames, of which the topmost doesn't link this name
abbrev pub without_link : List Frame → Bytes → List Frame
without_link [] name = []
without_link (frame ∷ frames) name = record frame { links = map.remove frame.links name } ∷ frames

-- after a link was taken away, which in the global frame changes nothing
abbrev pub unlinked : Stack → Bytes → Stack
unlinked stack name = record stack { above = without_link stack.above name }
