use Rattle.std.proofs.Common.{◌≡◌, ◌*◌, ◌+◌, ◌≤◌, length, List, None}
use Rattle.std.specs.Prelude.{nat_le}
use Rattle.cmd_table.specs.declared.definition.Def.{Def}
use Rattle.url_tables.specs.Tables.{IsBuiltOf}
use Rattle.url_tables.proofs.Ranks.{best_when}
use Rattle.url_tables.proofs.routes.Routes.serve.Given as goal

abbrev pub invariant-loop-count : goal.invariant-loop-count
invariant-loop-count l =
    (l.count ≤ length l.path + 1) × ((defs : List Def) → IsBuiltOf l.self defs → best_when (nat_le (2 * l.count)) l.fn.method l.fn.segments defs ≡ None)

abbrev pub decreases-loop-count : goal.decreases-loop-count
decreases-loop-count l = l.count
