-- What a clause says of all cells and of their passes, a line for each cell.
use Rattle.std.specs.Prelude.{◌≡◌, ◌↔◌, ◌≤◌, ℕ, [], false}
use Rattle.txt_core.specs.Names.{Bytes, Names}
use Rattle.turn_cell.specs.Cells.{pass_view, IsOf}
use Rattle.txt_core.specs.Members.{Has}
use Rattle.turn_cell.specs.History.{EndsIn}
use Rattle.txt_core.specs.Shares.{WHOLE}
use Rattle.turn_cell.specs.Passes.{fresh, joined, less_one, part_of}
use Rattle.turn_cell.specs.Steps.{IsInOrder}
use Rattle.blueprint.specs.States as blueprints
use Rattle.blueprint.specs.Objects.{BlueprintSteps}
use Rattle.sched_core.specs.Entries as schedules
use Rattle.sched_core.specs.Allowed as schedule_states
use Rattle.sched_core.specs.Steps.{ScheduleSteps}
use Rattle.nsv_bucket.specs.Buckets.{AllArrays}
use Rattle.nsv_shared.specs.Cells as arrays
use Rattle.shared_state.specs.declared.shared.Shared.{Shared}
use Rattle.shared_state.specs.declared.shared.Passes.{Passes}
use Rattle.shared_state.specs.Views.{empty_schedule}

-- the passes were made by these cells, each by its own
abbrev pub AreOf : Shared → Passes → Type 0
AreOf shared passes =
    IsOf shared.blueprint passes.blueprint
    × arrays.AreOf shared.nsv passes.nsv
    × IsOf shared.schedule passes.schedule

-- each name of the one list is among the other's, and the other way round
abbrev pub HaveSameNames : Names → Names → Type 0
HaveSameNames names others = (name : Bytes) → Has names name ↔ Has others name

-- The blueprint is one on natives of exactly these names, in whatever order: those with which the cells were made, since no turn changes
-- them.
abbrev pub KnowNames : Names → Passes → Type 0
KnowNames names passes = HaveSameNames names (pass_view passes.blueprint).low.natives

-- both: what each call on the cells asks for beside its natives
abbrev pub Serve : Names → Shared → Passes → Type 0
Serve names shared passes = AreOf shared passes × KnowNames names passes

-- each pass has at least so many units
abbrev pub HaveUnits : ℕ → Passes → Type 0
HaveUnits least passes =
    (least ≤ (pass_view passes.blueprint).units)
    × arrays.HaveUnits least passes.nsv
    × (least ≤ (pass_view passes.schedule).units)

-- each pass has so many units
abbrev pub HaveJust : ℕ → Passes → Type 0
HaveJust units passes =
    ((pass_view passes.blueprint).units ≡ units)
    × arrays.HaveJust units passes.nsv
    × ((pass_view passes.schedule).units ≡ units)

-- each pass has the share that it had
abbrev pub KeepUnits : Passes → Passes → Type 0
KeepUnits before after =
    ((pass_view after.blueprint).units ≡ (pass_view before.blueprint).units)
    × arrays.KeepUnits before.nsv after.nsv
    × ((pass_view after.schedule).units ≡ (pass_view before.schedule).units)

-- each pass has the whole share
abbrev pub AreWhole : Passes → Type 0
AreWhole passes = HaveJust WHOLE passes

-- Each pass has the whole share, and knows of no turn: nothing was published, with natives of these names; no array is there; and
-- nothing is scheduled.
abbrev pub AreOpening : Names → Passes → Type 0
AreOpening names passes =
    (pass_view passes.blueprint ≡ fresh WHOLE 0 (blueprints.fresh names) (blueprints.fresh names))
    × arrays.AreOpening passes.nsv
    × (pass_view passes.schedule ≡ fresh WHOLE 0 empty_schedule empty_schedule)

-- each pass gave a unit away
abbrev pub Leave : Passes → Passes → Type 0
Leave before after =
    (pass_view after.blueprint ≡ less_one (pass_view before.blueprint))
    × arrays.Leave before.nsv after.nsv
    × (pass_view after.schedule ≡ less_one (pass_view before.schedule))

-- each of the new passes is the part of one
abbrev pub ArePartsOf : Passes → Passes → Type 0
ArePartsOf before parts =
    (pass_view parts.blueprint ≡ part_of (pass_view before.blueprint))
    × arrays.ArePartsOf before.nsv parts.nsv
    × (pass_view parts.schedule ≡ part_of (pass_view before.schedule))

-- each pass took in the other one of its cell
abbrev pub Join : Passes → Passes → Passes → Type 0
Join before other after =
    (pass_view after.blueprint ≡ joined (pass_view before.blueprint) (pass_view other.blueprint))
    × arrays.Join before.nsv other.nsv after.nsv
    × (pass_view after.schedule ≡ joined (pass_view before.schedule) (pass_view other.schedule))

-- the own turns of each pass stand in order
abbrev pub AreInOrder : Passes → Type 0
AreInOrder passes =
    IsInOrder (pass_view passes.blueprint)
    × arrays.AreInOrder passes.nsv
    × IsInOrder (pass_view passes.schedule)

-- each object is what its history ended in
abbrev pub Close : Passes → blueprints.State → AllArrays → schedules.State → Type 0
Close passes blueprint buckets schedule =
    EndsIn blueprints.Allowed BlueprintSteps (pass_view passes.blueprint) blueprint
    × arrays.Close passes.nsv buckets
    × EndsIn schedule_states.Allowed ScheduleSteps (pass_view passes.schedule) schedule
