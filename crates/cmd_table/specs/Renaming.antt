-- What a rename makes of a command table.
use Rattle.std.specs.Prelude.{ℕ, [], ◌∷◌, Option, Some, None}
use Rattle.txt_core.specs.Names.{Bytes}
use Rattle.cmd_table.specs.declared.command.Cmd.{Cmd}
use Rattle.cmd_table.specs.declared.renaming.Renamed.{Renamed}
use Rattle.cmd_table.specs.declared.renaming.Renamed.TheVariants.{Done, NoOld, NewExists}
use Rattle.cmd_table.specs.Table.{Table, command_of, with_command, without_command}

-- a command that is to have the new name, which has a command or none: a name that is taken refuses it
abbrev pub answer_at_new : Option Cmd → Renamed
answer_at_new None = Done
answer_at_new (Some cmd) = NewExists

-- what is answered for a command: an empty new name removes it, and any other must have no command
abbrev pub answer_to : Table → Bytes → Renamed
answer_to table [] = Done
answer_to table (b ∷ t) = answer_at_new (command_of table (b ∷ t))

-- the answer, by the command of the old name: where there is none, this goes first
abbrev pub answer_from : Table → Option Cmd → Bytes → Renamed
answer_from table None new = NoOld
answer_from table (Some cmd) new = answer_to table new

-- what a rename answers
unfoldable pub rename_answer : Table → Bytes → Bytes → Renamed
rename_answer table old new = answer_from table (command_of table old) new

-- the command has the new name from now on, and the old name has none; an empty new name removes it
abbrev pub moved_to : Table → Cmd → Bytes → Bytes → Table
moved_to table cmd old [] = without_command table old
moved_to table cmd old (b ∷ t) = with_command (without_command table old) (b ∷ t) cmd

-- the table after a rename, by its answer: a refusal changes nothing
abbrev pub renamed_by : Table → Renamed → Option Cmd → Bytes → Bytes → Table
renamed_by table Done (Some cmd) old new = moved_to table cmd old new
renamed_by table Done None old new = table
renamed_by table NoOld found old new = table
renamed_by table NewExists found old new = table

-- the table after a rename
unfoldable pub renamed : Table → Bytes → Bytes → Table
renamed table old new = renamed_by table (rename_answer table old new) (command_of table old) old new

-- a rename to a new name writes two entries, the old one and the new one; a removal one
abbrev pub rename_writes : Bytes → ℕ
rename_writes [] = 1
rename_writes (b ∷ t) = 2

-- the entries that a rename writes or removes, by its answer: a refusal none
abbrev pub renaming_steps : Renamed → Bytes → ℕ
renaming_steps Done new = rename_writes new
renaming_steps NoOld new = 0
renaming_steps NewExists new = 0
