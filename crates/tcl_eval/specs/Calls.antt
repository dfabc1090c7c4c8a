-- Calls of procedures.
use Rattle.std.specs.Prelude.{◌≡◌, Some}
use Rattle.txt_core.specs.Names.{Words}
use Rattle.cmd_table.specs.Table.{Table, command_of}
use Rattle.cmd_table.specs.declared.command.Cmd.TheVariants.{Proc}
use Rattle.tcl_eval.specs.Words.{arg}
use Rattle.tcl_eval.specs.declared.call.Called.{Called}

-- the first of these words is the name of a procedure with these parameters and this body
abbrev pub IsCalled : Table → Words → Called → Type 0
IsCalled commands words called = command_of commands (arg words 0) ≡ Some (Proc called.params called.body)
