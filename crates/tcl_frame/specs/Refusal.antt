-- When a call is refused.
use Rattle.std.specs.Prelude.{◌≡◌, Result, Ok, Err, Option, Some, None}
use Rattle.tcl_frame.specs.declared.fault.VarFault.{VarFault}
use Rattle.tcl_frame.specs.declared.fault.VarFault.TheVariants.{NoVariable, IsArray, NotArray, Exists, NoMemory}

-- the call is refused for this fault, and exactly where there is one. Only where there is none may memory want
abbrev pub IsRefusedFor : {A : Type 0} → Option VarFault → Result A VarFault → Type 0
IsRefusedFor fault (Ok value) = fault ≡ None
IsRefusedFor fault (Err NoMemory) = fault ≡ None
IsRefusedFor fault (Err NoVariable) = fault ≡ Some NoVariable
IsRefusedFor fault (Err IsArray) = fault ≡ Some IsArray
IsRefusedFor fault (Err NotArray) = fault ≡ Some NotArray
IsRefusedFor fault (Err Exists) = fault ≡ Some Exists
