use Rattle.std.proofs.Common.{◌≡◌, ◌≤◌, drop, length, None}
use Rattle.url_tables.specs.Searching.{last_serving}
use Rattle.url_tables.proofs.routes.latest.Given as goal

abbrev pub invariant-loop-at : goal.invariant-loop-at
invariant-loop-at l = (l.at ≤ length l.sites) × (last_serving l.pattern l.method l.rest (drop l.at l.sites) ≡ None)

abbrev pub decreases-loop-at : goal.decreases-loop-at
decreases-loop-at l = l.at
