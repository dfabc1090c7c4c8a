use Rattle.std.proofs.Common.{◌≡◌, ◌++◌}
use Rattle.cmd_table.specs.Table.{names_of}
use Rattle.cmd_table.specs.Slots.{present}
use Rattle.cmd_table.proofs.slots.present_names.Given as goal

-- what is listed, and what is left to list
abbrev pub invariant-names : goal.invariant-names
invariant-names l = l.names ++ names_of (present l.name-iterator) ≡ names_of (present l.slots.entries)
