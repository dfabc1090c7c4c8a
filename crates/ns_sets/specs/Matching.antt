-- When two keys are the same.
use Rattle.ns_sets.specs.Fields.{Sameness, exact, ignoring_case}
use Rattle.ns_sets.specs.declared.matching.Matching.{Matching}
use Rattle.ns_sets.specs.declared.matching.Matching.TheVariants.{Exact, IgnoringCase}

-- the sameness that a `Matching` stands for
abbrev pub same : Matching → Sameness
same Exact = exact
same IgnoringCase = ignoring_case
