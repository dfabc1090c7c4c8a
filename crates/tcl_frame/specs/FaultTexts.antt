-- What is said of a variable that is refused.
use Rattle.std.specs.Prelude.{[]}
use Rattle.txt_core.specs.Names.{Bytes}
use Rattle.txt_core.specs.ErrorTexts.{no_variable, is_an_array, is_no_array, variable_exists}
use Rattle.tcl_frame.specs.declared.fault.VarFault.{VarFault}
use Rattle.tcl_frame.specs.declared.fault.VarFault.TheVariants.{NoVariable, IsArray, NotArray, Exists, NoMemory}

-- why a variable of this name is refused (want of memory is no such reason, and its text is never looked at)
abbrev pub variable_fault : VarFault → Bytes → Bytes
variable_fault NoVariable name = no_variable name
variable_fault IsArray name = is_an_array name
variable_fault NotArray name = is_no_array name
variable_fault Exists name = variable_exists name
variable_fault NoMemory name = []
