-- What is said where a variable or a list can't be read.
use Rattle.std.specs.Prelude.{◌≡◌, [], Result, Ok, Err}
use Rattle.txt_core.specs.Names.{Bytes}
use Rattle.tcl_frame.specs.declared.fault.VarFault.{VarFault}
use Rattle.tcl_frame.specs.declared.fault.VarFault.TheVariants.{NoVariable, IsArray, NotArray, Exists, NoMemory}
use Rattle.tcl_list.specs.declared.fault.ListFault.{ListFault}
use Rattle.tcl_list.specs.declared.fault.ListFault.TheVariants as list_faults
use Rattle.natives.specs.declared.fault.Fault.{Fault}
use Rattle.natives.specs.declared.fault.Fault.TheVariants as ends
use Rattle.natives.specs.Answers.{Says}
use Rattle.txt_core.specs.ErrorTexts.{no_list}
use Rattle.tcl_varcmd.specs.Answers.{Refuses}

-- for a variable that is to be written: the empty text where the variable is absent, and the refusal elsewhere
abbrev pub IsOrEmpty : VarFault → Bytes → Result Bytes Fault → Type 0
IsOrEmpty NoVariable name (Ok value) = value ≡ []
IsOrEmpty NoVariable name (Err x) = ⊥
IsOrEmpty IsArray name (Ok value) = ⊥
IsOrEmpty IsArray name (Err x) = Refuses IsArray name x
IsOrEmpty NotArray name (Ok value) = ⊥
IsOrEmpty NotArray name (Err x) = Refuses NotArray name x
IsOrEmpty Exists name (Ok value) = ⊥
IsOrEmpty Exists name (Err x) = Refuses Exists name x
IsOrEmpty NoMemory name (Ok value) = ⊥
IsOrEmpty NoMemory name (Err x) = Refuses NoMemory name x

-- the place where a text is no list
abbrev pub SaysOfList : ListFault → Fault → Type 0
SaysOfList (list_faults.Bad at) x = Says (no_list at) x
SaysOfList list_faults.NoMemory x = x ≡ ends.NoMemory
