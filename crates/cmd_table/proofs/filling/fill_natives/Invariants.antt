use Rattle.std.proofs.Common.{◌≡◌, ◌≤◌, ◌+◌, length, take}
use Rattle.cmd_table.specs.Slots.{present, AreReady}
use Rattle.cmd_table.specs.Commands.{with_built}
use Rattle.natives.specs.Names.{names_of as native_names}
use Rattle.cmd_table.proofs.filling.fill_natives.Given as goal

-- the names of the natives so far have their built-ins, and each was a step
abbrev pub invariant-loop-at : goal.invariant-loop-at
invariant-loop-at g l =
    (l.at-end ≡ length (native_names l.natives)) × (l.at ≤ l.at-end) × (present l.slots.entries ≡ with_built (present l.initial.slots.entries) (take l.at (native_names l.natives)))
    × AreReady l.slots.entries × (l.steps ≡ l.initial.steps + l.at)
