-- What the order of the stages means for a whole run.
use Rattle.std.specs.Prelude.{◌≡◌, ◌<◌, ◌⊎◌, ℕ, Option, Some}
use Rattle.cmd_table.specs.declared.definition.When.TheVariants.{Preauth, Postauth, Trace}
use Rattle.stages.specs.declared.event.Counts.{Counts}
use Rattle.stages.specs.declared.event.Do.{Do}
use Rattle.stages.specs.declared.event.Do.TheVariants.{Filter, Authorise, Serve, Write, Cleanup, End}
use Rattle.stages.specs.declared.event.Event.{Event}
use Rattle.stages.specs.declared.event.Event.TheVariants.{Written}
use Rattle.stages.specs.Order.{following}

-- the stages by number, in their order
abbrev pub stage_of : Do → ℕ
stage_of (Filter Preauth place) = 0
stage_of Authorise = 1
stage_of (Filter Postauth place) = 2
stage_of Serve = 3
stage_of Write = 4
stage_of (Filter Trace place) = 5
stage_of (Cleanup place) = 6
stage_of End = 7

-- the place in the stage
abbrev pub place_of : Do → ℕ
place_of (Filter when place) = place
place_of (Cleanup place) = place
place_of Authorise = 0
place_of Serve = 0
place_of Write = 0
place_of End = 0

-- the one is asked before the other: at an earlier stage, or at an earlier place of one stage
abbrev pub IsBefore : Do → Do → Type 0
IsBefore first second = (stage_of first < stage_of second) ⊎ ((stage_of first ≡ stage_of second) × (place_of first < place_of second))

-- whatever comes of it, what is asked next stands behind what was asked; so nothing is asked twice, and each run ends
abbrev pub AsksInOrder : Type 0
AsksInOrder = (counts : Counts) (event : Event) (asked next : Do) → following counts event (Some asked) ≡ Some next → IsBefore asked next

-- what is asked at a stage behind the writing, or the end, was reached from the writing: from a response that was written whole,
-- where it is a trace filter or a cleanup script
abbrev pub NeedsWhole : Do → Type 0
NeedsWhole next = (stage_of next ≡ 5) ⊎ (stage_of next ≡ 6)

abbrev pub TraceFollowsWritten : Type 0
TraceFollowsWritten =
    (counts : Counts) (event : Event) (asked : Option Do) (next : Do) → following counts event asked ≡ Some next → NeedsWhole next
    → ((asked ≡ Some Write) × (event ≡ Written)) ⊎ ((before : Do) × (asked ≡ Some before) × NeedsWhole before)
