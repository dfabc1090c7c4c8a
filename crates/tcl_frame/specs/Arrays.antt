-- What a removal of an element makes of a variable.
use Rattle.std.specs.FinMap as map
use Rattle.txt_core.specs.Names.{Bytes}
use Rattle.tcl_frame.specs.declared.variable.Variable.{Variable}
use Rattle.tcl_frame.specs.declared.variable.Variable.TheVariants.{Scalar, Array}

-- an array without the index; a scalar stays as it is
abbrev pub without_index : Variable → Bytes → Variable
without_index (Scalar text) index = Scalar text
without_index (Array elements) index = Array (map.remove elements index)
