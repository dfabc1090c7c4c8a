-- A command table: the commands by their names.
use Rattle.std.specs.Prelude.{◌≡◌, ◌≤◌, ◌++◌, ◌∷◌, ℕ, List, [], Option, length, take, slice_index_or}
use Rattle.std.specs.Str.{bytes_eq}
use Rattle.std.specs.Map.{lookup, remove_entry, keys_of}
use Rattle.std.specs.BTreeMap.{insert_entry}
use Rattle.std.specs.List.Sorted.{IsStrictlySortedBy}
use Rattle.txt_core.specs.Names.{Bytes, Names}
use Rattle.txt_core.specs.Order.{text_cmp}
use Rattle.cmd_table.specs.declared.command.Cmd.{Cmd}

-- names with their commands, in the order of the names, each name once
abbrev pub Table : Type 0
Table = List (Bytes × Cmd)

-- the names
abbrev pub names_of : Table → Names
names_of table = keys_of table

-- the names stand in their order, each once
abbrev pub IsInOrder : Table → Type 0
IsInOrder table = IsStrictlySortedBy text_cmp (names_of table)

-- the command of a name, none where the table hasn't the name
unfoldable pub command_of : Table → Bytes → Option Cmd
command_of table name = lookup (bytes_eq name) table

-- the table in which the name has this command, whatever it had before; all other names have theirs
unfoldable pub with_command : Table → Bytes → Cmd → Table
with_command table name cmd = insert_entry text_cmp table name cmd

-- the table without the name; all other names have their commands
unfoldable pub without_command : Table → Bytes → Table
without_command table name = remove_entry (bytes_eq name) table

-- What a command table of the program is: the commands as they are now, and what they were before, from
-- the table's making on, once for each entry that was written or removed since then and not taken back.
pub record State : Type 0 where
  pub past : List Table
  pub table : Table

-- after one more entry was written or removed, by which the commands became these
abbrev pub changed : State → Table → State
changed state table = record { past = state.past ++ state.table ∷ []; table = table }

-- The mark of a state: how many entries were written or removed.
abbrev pub mark_of : State → ℕ
mark_of state = length state.past

-- the commands as they were at a mark
abbrev pub table_at : State → ℕ → Table
table_at state mark = slice_index_or state.past mark state.table

-- the state of a mark: the commands as they were then, and what they were before that
abbrev pub back_at : State → ℕ → State
back_at state mark = record { past = take mark state.past; table = table_at state mark }

-- Each mark of the one state is a mark of the other too, and of the same state.
abbrev pub Keeps : State → State → Type 0
Keeps old new = (mark : ℕ) → mark ≤ mark_of old → (mark ≤ mark_of new) × (back_at new mark ≡ back_at old mark)
