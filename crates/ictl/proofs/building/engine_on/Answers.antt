use Rattle.std.proofs.Common.{sym, subst}
use Rattle.tcl_frame.specs.Base.{IsAtBase}
use Rattle.ictl.proofs.Buildings.{fresh_based}
use Rattle.ictl.proofs.building.engine_on.Goals as goal

pub define_on-requires : goal.define_on-requires
define_on-requires g c = subst IsAtBase (sym c.in_ok-frames.ensures) fresh_based
