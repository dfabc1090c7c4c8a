-- The steps of the scheduler.
use Rattle.std.specs.Prelude.{◌≡◌, ◌≢◌, ℕ, List, [], ◌∷◌, ◌++◌, Some, None}
use Rattle.txt_core.specs.Names.{Moment}
use Rattle.outside.specs.declared.question.Answer.{Answer}
use Rattle.outside.specs.declared.question.Question.{Question}
use Rattle.sched_core.specs.Allowed.{Allowed}
use Rattle.sched_core.specs.Entries.{State}
use Rattle.sched_core.specs.Steps.{ScheduleSteps}
use Rattle.sched_core.specs.declared.call.DueScript.{DueScript}
use Rattle.sched_core.specs.declared.call.SchedCall.TheVariants as calls
use Rattle.sched_core.specs.declared.call.SchedReply.{SchedReply}
use Rattle.sched_core.specs.declared.call.SchedReply.TheVariants as replies
use Rattle.tcl_eval.specs.declared.outcome.Outcome.{Outcome}
use Rattle.tcl_eval.specs.declared.outcome.Outcome.TheVariants as outcomes
use Rattle.ictl.specs.Falls.{IsEnd}
use Rattle.rehearse.specs.Lines.{Line, script, script_spent, script_deep}
use Rattle.rehearse.specs.Objects.{Setting, Answers}
use Rattle.rehearse.specs.declared.objects.Objects.{Objects}
use Rattle.rehearse.specs.Runs.{asking, over, script_stand}
use Rattle.rehearse.specs.World.{OpenScript, Scheduler, resting, begun_script, with_script_answer}

-- The scheduler, and the objects.
pub record Agenda : Type 0 where
  pub scheduler : Scheduler
  pub objects : Objects

-- the scripts that a reply lists
abbrev pub due_scripts : SchedReply → List DueScript
due_scripts (replies.Due list) = list
due_scripts (replies.Id id) = []
due_scripts replies.NoId = []
due_scripts replies.Full = []
due_scripts replies.Cancelled = []
due_scripts replies.Stopped = []
due_scripts replies.NoMemory = []

-- The scripts that are due at this moment are taken, by a step of the schedule itself: those that are due first stand first, and of
-- several that are due at once those with the lower ids.
pub record TakesDue (moment : Moment) (before after : Agenda) : Type 0 where
  pub reply : SchedReply
  pub schedule : State
  pub steps : ScheduleSteps before.objects.schedule (calls.Due moment) reply schedule
  pub allowed : Allowed schedule
  pub memory : reply ≢ replies.NoMemory
  pub after_is : after ≡ record {
    scheduler = record { waiting = due_scripts reply; running = None };
    objects = record before.objects { schedule = schedule };
  }

-- What is told of a script that has ended so. Neither a question nor want of memory is an end: the last two lines are told of nothing.
abbrev pub script_line : ℕ → ℕ → Outcome → Line
script_line id epoch (outcomes.Done code result) = script id epoch code result
script_line id epoch outcomes.Spent = script_spent id epoch
script_line id epoch outcomes.TooDeep = script_deep id epoch
script_line id epoch (outcomes.Asks question) = script_spent id epoch
script_line id epoch outcomes.NoMemory = script_spent id epoch

-- A step of the scheduler, and what it tells.
pub data ScheduleStep (setting : Setting) (before : Agenda) (lines : List Line) (after : Agenda) : Type 0 where
  -- an idle scheduler takes what is due
  takes : before.scheduler ≡ resting → TakesDue setting.moment before after → lines ≡ [] → ScheduleStep setting before lines after
  -- it begins the next script, with the blueprint and the clock as they are then
  begins : (due : DueScript) (waiting : List DueScript)
      → before.scheduler ≡ record { waiting = due ∷ waiting; running = None }
      → lines ≡ []
      → after ≡ record { scheduler = record { waiting = waiting; running = Some (begun_script setting before.objects due) }; objects = before.objects }
      → ScheduleStep setting before lines after
  -- it answers the open question
  answers : (running : OpenScript) (question : Question) (answer : Answer) (objects : Objects)
      → before.scheduler.running ≡ Some running
      → script_stand setting.natives running ≡ asking question
      → Answers setting running.moment question before.objects answer objects
      → lines ≡ []
      → after ≡ record { scheduler = record { waiting = before.scheduler.waiting; running = Some (with_script_answer running answer) }; objects = objects }
      → ScheduleStep setting before lines after
  -- it ends a script whose run has ended; want of memory is no end
  ends : (running : OpenScript) (outcome : Outcome)
      → before.scheduler.running ≡ Some running
      → script_stand setting.natives running ≡ over outcome
      → IsEnd outcome
      → lines ≡ script_line running.id running.blueprint.epoch outcome ∷ []
      → after ≡ record { scheduler = record { waiting = before.scheduler.waiting; running = None }; objects = before.objects }
      → ScheduleStep setting before lines after

-- Steps, at least one, until the scheduler has no script.
pub data ScheduleRuns (setting : Setting) : Agenda → List Line → Agenda → Type 0 where
  last : {before after : Agenda} {lines : List Line}
      → ScheduleStep setting before lines after → after.scheduler ≡ resting → ScheduleRuns setting before lines after
  more : {before between after : Agenda} (lines others : List Line)
      → ScheduleStep setting before lines between → ¬ (between.scheduler ≡ resting)
      → ScheduleRuns setting between others after → ScheduleRuns setting before (lines ++ others) after
