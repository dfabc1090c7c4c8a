use Rattle.std.proofs.Common.{◌≡◌, ◌++◌, drop}
use Rattle.ictl.specs.Visits.{cleanups_of}
use Rattle.ictl.proofs.building.add_cleanups.Given as goal

-- the scripts so far, with those of the definitions left
abbrev pub invariant-defs : goal.invariant-defs
invariant-defs l = l.scripts ++ cleanups_of (drop l.def-index l.defs) ≡ l.initial.scripts ++ cleanups_of l.defs
