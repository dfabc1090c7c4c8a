-- What makes a command table a finite map.
use Rattle.std.specs.Prelude.{◌≡◌, ◌≤◌, ◌++◌, ◌↔◌, ℕ, List, Some, None, IsTrue, if◌then◌else◌}
use Rattle.std.specs.Str.{bytes_eq}
use Rattle.std.specs.List.Sorted.{IsStrictlySortedBy}
use Rattle.txt_core.specs.Names.{Bytes, Names}
use Rattle.txt_core.specs.Order.{text_cmp}
use Rattle.natives.specs.Names.{has_name}
use Rattle.cmd_table.specs.declared.command.Cmd.{Cmd}
use Rattle.cmd_table.specs.declared.definition.Def.{Def}
use Rattle.cmd_table.specs.Table.{Table, IsInOrder, command_of, with_command, without_command, State, mark_of, back_at, Keeps}
use Rattle.cmd_table.specs.Places.{has_place, placed}
use Rattle.cmd_table.specs.declared.command.Cmd.TheVariants as commands
use Rattle.cmd_table.specs.Commands.{built_ins, built, Commands, Applies, fits}

-- a command that is put is found under its name, and any other name has what it had
abbrev pub PuttingSetsOneName : Type 0
PuttingSetsOneName = (table : Table) (name other : Bytes) (cmd : Cmd) → command_of (with_command table name cmd) other ≡ (if bytes_eq name other then Some cmd else command_of table other)

-- a name that is removed has no command, and any other name has what it had
abbrev pub RemovingDropsOneName : Type 0
RemovingDropsOneName = (table : Table) (name other : Bytes) → IsInOrder table → command_of (without_command table name) other ≡ (if bytes_eq name other then None else command_of table other)

-- whatever is defined, the names stand in their order, each once
abbrev pub CommandsAreInOrder : Type 0
CommandsAreInOrder = (natives : Names) (defs : List Def) → IsInOrder (Commands natives defs)

-- each built-in name has its built-in, those of the natives too, and no other name has a command
abbrev pub BuiltInsAreThere : Type 0
BuiltInsAreThere = (natives : Names) (name : Bytes) → command_of (built natives) name ≡ (if has_name (built_ins ++ natives) name then Some (commands.Built name) else None)

-- the truth value says whether a definition applies
abbrev pub FitsWhereApplies : Type 0
FitsWhereApplies = (table : Table) (def : Def) → IsTrue (fits table def) ↔ Applies table def

-- a state is that of its own mark
abbrev pub MarkIsNow : Type 0
MarkIsNow = (state : State) → back_at state (mark_of state) ≡ state

-- back at a mark, all marks up to it are what they were
abbrev pub BackKeepsMarks : Type 0
BackKeepsMarks = (state : State) (mark earlier : ℕ) → earlier ≤ mark → mark ≤ mark_of state → (earlier ≤ mark_of (back_at state mark)) × (back_at (back_at state mark) earlier ≡ back_at state earlier)

-- what is kept from one state to the next, and from there to a third one, is kept from the first to the third
abbrev pub KeepingGoesOn : Type 0
KeepingGoesOn = (first second third : State) → Keeps first second → Keeps second third → Keeps first third

-- the names that have a place stand in their order, each once
abbrev pub PlacesAreInOrder : Type 0
PlacesAreInOrder = (state : State) → IsStrictlySortedBy text_cmp (placed state)

-- they are exactly those that have a command now, or had one before a change that can be taken back
abbrev pub PlacesAreOfCommands : Type 0
PlacesAreOfCommands = (state : State) (name : Bytes) → has_name (placed state) name ≡ has_place state name

-- taken back to where an earlier state was, a table has the places that it had there
abbrev pub PlacesGoBack : Type 0
PlacesGoBack = (old new : State) → Keeps old new → placed (back_at new (mark_of old)) ≡ placed old
