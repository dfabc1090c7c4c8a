-- What names stand for that were looked up lately, each at the place that it gives.
use Rattle.std.specs.Prelude.{◌≡◌, ◌↔◌, List, Option, Some, IsTrue}
use Rattle.txt_core.specs.Names.{Bytes}
use Rattle.natives.specs.Hints.{hint_place}
use Rattle.natives.specs.Places.{item_at}
use Rattle.cmd_table.specs.declared.command.Cmd.{Cmd}
use Rattle.cmd_table.specs.declared.command.Cmd.TheVariants as commands
use Rattle.cmd_table.specs.declared.latest.Looked.{Looked}
use Rattle.cmd_table.specs.Table.{Table, command_of}

-- What was looked up is true of a name that stands for this command, or for none: this is what was kept, and `own` says whether it is
-- the built-in of this very name.
abbrev pub IsTrueOf : Option Cmd → Bytes → Looked → Type 0
IsTrueOf found name looked = (looked.cmd ≡ found) × (IsTrue looked.own ↔ (found ≡ Some (commands.Built name)))

-- what stands at the place of its own name is true of what that name stands for in a table
abbrev pub AreLatest : Table → List (Option Looked) → Type 0
AreLatest table places = (looked : Looked) → item_at places (hint_place looked.name) ≡ Some looked → IsTrueOf (command_of table looked.name) looked.name looked

-- all names but this one stand for the same in both tables
abbrev pub IsSameBut : Bytes → Table → Table → Type 0
IsSameBut name before after = (other : Bytes) → (other ≡ name → ⊥) → command_of after other ≡ command_of before other
