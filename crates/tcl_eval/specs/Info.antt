-- `info` on commands: their names, and the parameters and the body of a procedure.
use Rattle.std.specs.Prelude.{List, length, map, filter, slice_get, ◌==◌, ◌||◌, bytes_eq, codes, if◌then◌else◌, Option, Some, None, Result, Ok, Err}
use Rattle.txt_core.specs.Names.{Bytes, Words}
use Rattle.cmd_table.specs.Table.{Table, names_of, command_of}
use Rattle.cmd_table.specs.declared.command.Cmd.{Cmd}
use Rattle.cmd_table.specs.declared.command.Cmd.TheVariants.{Built, Proc}
use Rattle.txt_core.specs.Quoting.{quoting}
pub use Rattle.txt_core.specs.Picking.{picks}
use Rattle.tcl_eval.specs.declared.parameter.Parameter.{Parameter}
use Rattle.tcl_eval.specs.declared.stack.Ended.{Ended}
use Rattle.tcl_host.specs.Codes as code_of
use Rattle.tcl_eval.specs.Parameters.{parameters}
use Rattle.tcl_eval.specs.Words.{arg}
use Rattle.tcl_eval.specs.Messages.{no_procedure, unknown_subcommand}
use Rattle.tcl_eval.specs.Results.{ended, error_of, wrong_words_end}
use Rattle.tcl_eval.specs.Going.{give}
use Rattle.tcl_eval.specs.State.{Rest, Next}

-- `info commands ?glob?`: the names in byte order
abbrev pub names_picked : Table → Option Bytes → Ended
names_picked table pattern = ended code_of.ok (quoting (filter (picks pattern) (names_of table)))

-- the names of parameters, or what `proc` says of them
abbrev pub names_said : Result (List Parameter) Bytes → Ended
names_said (Err message) = error_of message
names_said (Ok all) = ended code_of.ok (quoting (map (λ (p : Parameter). p.name) all))

-- `info args p`: the names of a procedure's parameters
abbrev pub args_said : Bytes → Option Cmd → Ended
args_said name None = error_of (no_procedure name)
args_said name (Some (Built own)) = error_of (no_procedure name)
args_said name (Some (Proc params body)) = names_said (parameters params)

-- `info body p`: a procedure's body
abbrev pub body_said : Bytes → Option Cmd → Ended
body_said name None = error_of (no_procedure name)
body_said name (Some (Built own)) = error_of (no_procedure name)
body_said name (Some (Proc params body)) = ended code_of.ok body

-- the subcommands but `exists`, which is one on variables
abbrev pub part_said : Table → Words → Ended
part_said table words =
    if bytes_eq (arg words 1) (codes "commands") then names_picked table (slice_get words 2)
    else if bytes_eq (arg words 1) (codes "args") then
    (if length words == 3 then args_said (arg words 2) (command_of table (arg words 2)) else wrong_words_end words)
    else if bytes_eq (arg words 1) (codes "body") then
    (if length words == 3 then body_said (arg words 2) (command_of table (arg words 2)) else wrong_words_end words)
    else error_of (unknown_subcommand (arg words 1) (codes "info"))

-- first the number of words that any subcommand may have, then the subcommand, then its own number of words
abbrev pub info_said : Table → Words → Ended
info_said table words =
    if (length words == 2) || (length words == 3) then part_said table words else wrong_words_end words

module _ {H : Type 0} where
  abbrev pub do_info : Words → Next H → Rest H
  do_info words k = λ state. give (info_said state.commands words) k state
