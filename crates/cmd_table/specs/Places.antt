-- The names that have a place in a command table.
use Rattle.std.specs.Prelude.{◌++◌, Bool, [], ◌∷◌, fold}
use Rattle.std.specs.Option.{is_some}
use Rattle.std.specs.List.{list_any}
use Rattle.txt_core.specs.Names.{Bytes, Names}
use Rattle.cmd_table.specs.Table.{Table, names_of, command_of, with_command, State}

-- whether a name has a command in a table
abbrev pub has_command : Table → Bytes → Bool
has_command table name = is_some (command_of table name)

-- Whether a name has a place: it has a command now, or had one before a change that can still be taken back.
abbrev pub has_place : State → Bytes → Bool
has_place state name = list_any (λ table. has_command table name) (state.past ++ state.table ∷ [])

-- a table into which the entries of another one were put
abbrev pub with_entries : Table → Table → Table
with_entries all table = fold (λ all entry. with_command all entry.0 entry.1) all table

-- The names that have a place, in their order, each once: those of all tables, now and before, put together.
unfoldable pub placed : State → Names
placed state = names_of (fold with_entries [] (state.past ++ state.table ∷ []))
