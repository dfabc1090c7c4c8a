use Rattle.std.proofs.Common.{◌≡◌, ◌++◌, drop}
use Rattle.ictl.specs.Visits.{calls_of}
use Rattle.ictl.proofs.visit.calls_of.Given as goal

-- the calls so far, with those of the filters left
abbrev pub invariant-filters : goal.invariant-filters
invariant-filters l = l.calls ++ calls_of l.when (drop l.words-index l.filters) ≡ calls_of l.when l.filters
