-- What no run changes, over several calls.
use Rattle.std.proofs.Common.{refl, ◌∙◌, arith}
use Rattle.server_host.specs.Hosts.{HostState}
use Rattle.tcl_eval.specs.Engine.{Lasts}
use Rattle.tcl_eval.specs.declared.engine.Engine.{Engine}

-- what stays in each of two calls stays in both
pub lasts_on : (new between old : Engine HostState) → Lasts new between → Lasts between old → Lasts new old
lasts_on new between old later earlier = (
  λ mark le. let x = earlier.0 mark le in let y = later.0 mark x.0 in (y.0, y.1 ∙ x.1),
  omega (arith, later.1, earlier.1),
  later.2 ∙ earlier.2,
)

-- nothing changes where nothing is done
pub lasts_same : (engine : Engine HostState) → Lasts engine engine
lasts_same engine = (λ mark le. (le, refl), refl, refl)
