use Rattle.std.proofs.Common.{◌≡◌, take}
use Rattle.url_tables.specs.Searching.{passed}
use Rattle.url_tables.proofs.routes.Routes.filters.Given as goal

abbrev pub invariant-loop-filter : goal.invariant-loop-filter
invariant-loop-filter l = l.list ≡ passed l.when l.method l.path (take l.filter-index l.filter-items)
