-- The order of the stages: preauth filters, authorisation, postauth filters, the procedure or page, writing, trace filters,
-- cleanup scripts.
use Rattle.std.specs.Prelude.{ℕ, ◌+◌, nat_lt, if◌then◌else◌, Option, Some, None}
use Rattle.cmd_table.specs.declared.definition.When.{When}
use Rattle.cmd_table.specs.declared.definition.When.TheVariants.{Preauth, Postauth, Trace}
use Rattle.stages.specs.declared.event.Counts.{Counts}
use Rattle.stages.specs.declared.event.Do.{Do}
use Rattle.stages.specs.declared.event.Do.TheVariants.{Filter, Authorise, Serve, Write, Cleanup, End}
use Rattle.stages.specs.declared.event.Event.{Event}
use Rattle.stages.specs.declared.event.Event.TheVariants.{Begin, FilterOk, FilterBreak, FilterReturn, Allowed, Denied, Served, Failed, Written, NotWritten, Ran}

-- ---- what comes next from a place of a stage on: what stands at the place, or behind the last place the next stage

abbrev pub cleanup_from : Counts → ℕ → Do
cleanup_from counts place = if nat_lt place counts.cleanup then Cleanup place else End

abbrev pub trace_from : Counts → ℕ → Do
trace_from counts place = if nat_lt place counts.trace then Filter Trace place else cleanup_from counts 0

abbrev pub postauth_from : Counts → ℕ → Do
postauth_from counts place = if nat_lt place counts.postauth then Filter Postauth place else Serve

abbrev pub authorisation : Counts → Do
authorisation counts = if counts.authorise then Authorise else postauth_from counts 0

abbrev pub preauth_from : Counts → ℕ → Do
preauth_from counts place = if nat_lt place counts.preauth then Filter Preauth place else authorisation counts

-- the filters of a stage from a place on
abbrev pub filters_from : Counts → When → ℕ → Do
filters_from counts Preauth place = preauth_from counts place
filters_from counts Postauth place = postauth_from counts place
filters_from counts Trace place = trace_from counts place

-- what comes behind the filters of a stage
abbrev pub behind_filters : Counts → When → Do
behind_filters counts Preauth = authorisation counts
behind_filters counts Postauth = Serve
behind_filters counts Trace = cleanup_from counts 0

-- what comes of a filter that has the response written, or fails: of a trace filter, behind whose response nothing is written,
-- this is passed over
abbrev pub cut_short : Counts → When → ℕ → Do
cut_short counts Preauth place = Write
cut_short counts Postauth place = Write
cut_short counts Trace place = trace_from counts (place + 1)

-- What follows, by what came of what was asked last; none where the event doesn't fit that.
abbrev pub following : Counts → Event → Option Do → Option Do
-- nothing was asked yet
following counts Begin None = Some (preauth_from counts 0)
-- a filter: a break ends its stage, and nothing else
following counts FilterOk (Some (Filter when place)) = Some (filters_from counts when (place + 1))
following counts FilterBreak (Some (Filter when place)) = Some (behind_filters counts when)
following counts FilterReturn (Some (Filter when place)) = Some (cut_short counts when place)
following counts Failed (Some (Filter when place)) = Some (cut_short counts when place)
-- the authorisation
following counts Allowed (Some Authorise) = Some (postauth_from counts 0)
following counts Denied (Some Authorise) = Some Write
following counts Failed (Some Authorise) = Some Write
-- the procedure or page
following counts Served (Some Serve) = Some Write
following counts Failed (Some Serve) = Some Write
-- the response: trace filters and cleanup scripts follow a whole one alone
following counts Written (Some Write) = Some (trace_from counts 0)
following counts NotWritten (Some Write) = Some End
-- a cleanup script
following counts Ran (Some (Cleanup place)) = Some (cleanup_from counts (place + 1))
following counts event asked = None
