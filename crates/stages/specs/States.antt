-- Where a request stands.
use Rattle.std.specs.Prelude.{ℕ, ◌<◌, Option, Some, None}
use Rattle.cmd_table.specs.declared.definition.When.{When}
use Rattle.cmd_table.specs.declared.definition.When.TheVariants.{Preauth, Postauth, Trace}
use Rattle.stages.specs.declared.event.Counts.{Counts}
use Rattle.stages.specs.declared.event.Do.{Do}
use Rattle.stages.specs.declared.event.Do.TheVariants.{Filter, Authorise, Serve, Write, Cleanup, End}

-- what a request has at each stage, and what was asked last, if anything
pub record State : Type 0 where
  pub counts : Counts
  pub asked : Option Do

-- how many filters a stage has
abbrev pub filters_at : Counts → When → ℕ
filters_at counts Preauth = counts.preauth
filters_at counts Postauth = counts.postauth
filters_at counts Trace = counts.trace

-- no filter and no cleanup script was asked for that isn't there
abbrev pub IsWithin : Counts → Option Do → Type 0
IsWithin counts None = Unit {0}
IsWithin counts (Some (Filter when place)) = place < filters_at counts when
IsWithin counts (Some (Cleanup place)) = place < counts.cleanup
IsWithin counts (Some Authorise) = Unit {0}
IsWithin counts (Some Serve) = Unit {0}
IsWithin counts (Some Write) = Unit {0}
IsWithin counts (Some End) = Unit {0}
