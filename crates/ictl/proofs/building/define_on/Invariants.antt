use Rattle.std.proofs.Common.{drop}
use Rattle.ictl.proofs.Buildings.{Making}
use Rattle.ictl.proofs.building.define_on.Given as goal

abbrev pub invariant-defs : goal.invariant-defs
invariant-defs g l = Making l.initial.table l.table l.initial.frames l.frames l.defs (drop l.def-index l.defs) l.initial.steps l.steps
