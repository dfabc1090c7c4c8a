-- What more bytes behind a value make of a variable and of variables by name.
use Rattle.std.specs.Prelude.{◌++◌, Option, Some}
use Rattle.txt_core.specs.Names.{Bytes}
use Rattle.tcl_frame.specs.declared.variable.Variable.{Variable}
use Rattle.tcl_frame.specs.Names.{Named}
use Rattle.tcl_frame.specs.Variables.{Table, with_value}
use Rattle.tcl_frame.specs.Meaning.{whole, value_or_nothing, element, found, value_there}

-- a text, which is empty where it is absent
abbrev pub text_of : Option Bytes → Bytes
text_of text = value_there (value_or_nothing text)

-- the text of a scalar, and the empty one of an array
abbrev pub text_in : Variable → Bytes
text_in variable = value_there (whole (Some variable))

-- the text of an array's element, which is empty where it is absent, and where the variable is a scalar
abbrev pub text_at : Variable → Bytes → Bytes
text_at variable index = value_there (element (Some variable) index)

-- more bytes behind the value of the name, which is empty where it is absent
abbrev pub longer : Table → Named → Bytes → Bytes
longer table name more = value_there (found table name) ++ more

-- with more bytes behind the value of the name
abbrev pub with_longer : Table → Named → Bytes → Table
with_longer table name more = with_value table name (longer table name more)
