-- What a command table keeps: a slot for each name that has a command, and empty ones for names that were
-- removed, so that these keep their places until the removal is taken back.
use Rattle.std.specs.Prelude.{◌≡◌, Bool, List, [], ◌∷◌, Option, Some, None}
use Rattle.std.specs.Option.{is_some}
use Rattle.std.specs.Map.{keys_of, lookup}
use Rattle.std.specs.BTreeMap.{is_at}
use Rattle.std.specs.List.Sorted.{IsStrictlySortedBy}
use Rattle.txt_core.specs.Names.{Bytes}
use Rattle.txt_core.specs.Order.{text_cmp}
use Rattle.cmd_table.specs.declared.command.Cmd.{Cmd}
use Rattle.cmd_table.specs.Table.{Table, with_command, without_command}
use Rattle.cmd_table.specs.Places.{has_command}

abbrev pub Slots : Type 0
Slots = List (Bytes × Option Cmd)

-- the entry of a slot, where it isn't empty, in front of others
abbrev pub put_present : Bytes → Option Cmd → Table → Table
put_present name None table = table
put_present name (Some cmd) table = (name, cmd) ∷ table

-- the entries of the slots that aren't empty
unfoldable pub present : Slots → Table
present [] = []
present (slot ∷ slots) = put_present slot.0 slot.1 (present slots)

-- the slots stand in the order of their names, each once
abbrev pub AreInOrder : Slots → Type 0
AreInOrder slots = IsStrictlySortedBy text_cmp (keys_of slots)

-- the slot of a name is there
abbrev pub has_slot : Slots → Bytes → Bool
has_slot slots name = is_some (lookup (is_at (text_cmp name)) slots)

-- no slot is empty
abbrev pub AreFull : Slots → Type 0
AreFull slots = (name : Bytes) → has_slot slots name ≡ has_command (present slots) name

-- slots as they are before any change
abbrev pub AreReady : Slots → Type 0
AreReady slots = AreInOrder slots × AreFull slots

-- with this command for the name, where there is one
abbrev pub with_option : Table → Bytes → Option Cmd → Table
with_option table name None = without_command table name
with_option table name (Some cmd) = with_command table name cmd
