-- What comes of bytes that are put behind a variable's value.
use Rattle.std.specs.Prelude.{◌++◌}
use Rattle.txt_core.specs.Names.{Bytes}
use Rattle.tcl_frame.specs.Stack.{Stack}
use Rattle.tcl_frame.specs.Frames.{read_of, written}
use Rattle.tcl_varcmd.specs.Answers.{Came, gives, unless}
use Rattle.tcl_varcmd.specs.Errors.{write_error}
use Rattle.tcl_varcmd.specs.Scalars.{stored}

-- the bytes are put behind the variable's own, which are none where it is absent, and all are the result
abbrev pub put_behind : Stack → Bytes → Bytes → Came
put_behind stack name more =
    unless (write_error stack name) stack (gives (read_of stack name ++ more) (written stack name (read_of stack name ++ more)))

-- the same where a value over the limit isn't written
abbrev pub grown : Stack → Bytes → Bytes → Came
grown stack name more = unless (write_error stack name) stack (stored stack name (read_of stack name ++ more))
