-- What a pass knows of one cell.
use Rattle.std.specs.Prelude.{[], false}
use Rattle.turn_cell.specs.declared.view.Entry.{Entry}
use Rattle.turn_cell.specs.declared.view.View.{View}
use Rattle.blueprint.specs.declared.reply.BlueCall.{BlueCall}
use Rattle.blueprint.specs.declared.reply.BlueReply.{BlueReply}
use Rattle.blueprint.specs.States as blueprints
use Rattle.sched_core.specs.declared.call.SchedCall.{SchedCall}
use Rattle.sched_core.specs.declared.call.SchedReply.{SchedReply}
use Rattle.sched_core.specs.Entries as schedules

-- turns on the blueprint, and what a pass knows of it
abbrev pub BlueEntry : Type 0
BlueEntry = Entry blueprints.State BlueCall BlueReply

abbrev pub BlueView : Type 0
BlueView = View blueprints.State BlueCall BlueReply

-- the same of the schedule
abbrev pub ScheduleEntry : Type 0
ScheduleEntry = Entry schedules.State SchedCall SchedReply

abbrev pub ScheduleView : Type 0
ScheduleView = View schedules.State SchedCall SchedReply

-- a schedule without entries, which wasn't stopped
abbrev pub empty_schedule : schedules.State
empty_schedule = record { next = 0; entries = []; stopped = false }
