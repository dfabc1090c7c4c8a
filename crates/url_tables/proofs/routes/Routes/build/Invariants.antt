use Rattle.std.proofs.Common.{take}
use Rattle.url_tables.specs.Tables.{IsBuiltOf}
use Rattle.url_tables.proofs.routes.Routes.build.Given as goal

abbrev pub invariant-loop-def : goal.invariant-loop-def
invariant-loop-def l = IsBuiltOf l.routes (take l.def-index l.def-items)
