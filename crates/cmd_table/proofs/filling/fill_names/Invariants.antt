use Rattle.std.proofs.Common.{◌≡◌, ◌+◌, map, take}
use Rattle.cmd_table.specs.Slots.{present, AreReady}
use Rattle.cmd_table.specs.Commands.{with_built}
use Rattle.cmd_table.proofs.filling.fill_names.Given as goal

-- the names so far have their built-ins, and each was a step
abbrev pub invariant-loop-name : goal.invariant-loop-name
invariant-loop-name g l =
    (present l.slots.entries ≡ with_built (present l.initial.slots.entries) (map (λ name. name.now) (take l.name-index l.names))) × AreReady l.slots.entries × (l.steps ≡ l.initial.steps + l.name-index)
