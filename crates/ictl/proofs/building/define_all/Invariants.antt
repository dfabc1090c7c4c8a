use Rattle.std.proofs.Common.{drop}
use Rattle.ictl.proofs.Buildings.{Defining}
use Rattle.ictl.proofs.building.define_all.Given as goal

abbrev pub invariant-defs : goal.invariant-defs
invariant-defs g l = Defining l.initial.engine l.engine l.defs (drop l.def-index l.defs) l.initial.steps l.steps
