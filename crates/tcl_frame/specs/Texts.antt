-- The texts of scalars.
use Rattle.std.specs.Prelude.{Option, Some, None}
use Rattle.txt_core.specs.Names.{Bytes}
use Rattle.tcl_frame.specs.declared.variable.Variable.{Variable}
use Rattle.tcl_frame.specs.declared.variable.Variable.TheVariants.{Scalar, Array}

-- the text of a variable that is a scalar
abbrev pub text_of_scalar : Option Variable → Option Bytes
text_of_scalar None = None
text_of_scalar (Some (Scalar text)) = Some text
text_of_scalar (Some (Array elements)) = None
