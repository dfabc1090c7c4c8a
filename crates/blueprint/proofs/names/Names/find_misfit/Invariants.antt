use Rattle.std.proofs.Common.{◌≡◌, ℕ, List, ◌++◌, take, drop}
use Rattle.cmd_table.specs.declared.definition.Def.{Def}
use Rattle.cmd_table.specs.Commands.{Commands}
use Rattle.blueprint.specs.States.{misfit_from, first_misfit}
use Rattle.blueprint.specs.Kept.{is_there, undone, HavePlaces, AreCommands}
use Rattle.blueprint.proofs.names.Names.find_misfit.Given as goal

-- The definitions so far are made, the first misfit is among those that are left, and what was changed can be taken back.
abbrev pub invariant-defs : goal.invariant-defs
invariant-defs l =
    record {
      made : (natives : List (List ℕ)) (before : List Def) → AreCommands l.initial.self.slots (Commands natives before) → AreCommands l.self.slots (Commands natives (before ++ take l.place l.defs));
      rest : (natives : List (List ℕ)) (before : List Def) → AreCommands l.initial.self.slots (Commands natives before) → first_misfit (Commands natives before) l.defs ≡ misfit_from l.place (Commands natives (before ++ take l.place l.defs)) (drop l.place l.defs);
      past : (q : List ℕ) → undone l.journal.items (is_there l.self.slots) q ≡ undone l.initial.journal.items (is_there l.initial.self.slots) q;
      places : HavePlaces l.initial.self.slots l.initial.journal.items → HavePlaces l.self.slots l.journal.items;
    }
