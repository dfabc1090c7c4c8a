-- What a command table was before each change, by what its journal notes.
use Rattle.std.specs.Prelude.{◌≡◌, ◌||◌, List, [], ◌∷◌, Option, Some, None}
use Rattle.std.specs.Map.{remove_entry, set_value}
use Rattle.std.specs.BTreeMap.{is_at}
use Rattle.txt_core.specs.Names.{Bytes}
use Rattle.txt_core.specs.Order.{text_cmp}
use Rattle.cmd_table.specs.declared.command.Cmd.{Cmd}
use Rattle.cmd_table.specs.declared.journal.Row.{Row}
use Rattle.cmd_table.specs.Table.{Table}
use Rattle.cmd_table.specs.Places.{has_command}
use Rattle.cmd_table.specs.Slots.{Slots, present, has_slot, AreFull}

-- the slots in which the slot of this name is what it was: it holds this again, or there is none
abbrev pub with_slot : Slots → Bytes → Option (Option Cmd) → Slots
with_slot slots name None = remove_entry (is_at (text_cmp name)) slots
with_slot slots name (Some cmd) = set_value (is_at (text_cmp name)) slots cmd

-- the slots before a change
abbrev pub back : Row → Slots → Slots
back row slots = with_slot slots row.name row.before

-- the slots before changes, the first of which stands first
abbrev pub undone : List Row → Slots → Slots
undone [] slots = slots
undone (row ∷ rows) slots = back row (undone rows slots)

-- the tables that stood before each of the changes
abbrev pub past_of : List Row → Slots → List Table
past_of [] slots = []
past_of (row ∷ rows) slots = present (undone (row ∷ rows) slots) ∷ past_of rows slots

-- in a change, slots came for names that have a command behind it, and no other slot came or went
abbrev pub AreMore : Slots → Slots → Type 0
AreMore before after = (name : Bytes) → has_slot after name ≡ (has_slot before name || has_command (present after) name)

-- so it was in each change
abbrev pub AreGrown : List Row → Slots → Type 0
AreGrown [] slots = Unit {0}
AreGrown (row ∷ rows) slots = AreMore (undone (row ∷ rows) slots) (undone rows slots) × AreGrown rows slots

-- before the first change each slot held a command, and since then slots came only for names that then had a command
abbrev pub ArePlaced : List Row → Slots → Type 0
ArePlaced rows slots = AreFull (undone rows slots) × AreGrown rows slots
