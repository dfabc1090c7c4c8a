-- The start script: a definition run on the opening objects, which nobody else uses yet.
use Rattle.std.specs.Prelude.{◌≡◌, ◌<◌, ◌≤◌, ℕ, zero, suc, List, [], ◌∷◌, length, Option, None, Some}
use Rattle.std.specs.FinMap as map
use Rattle.txt_core.specs.Names.{Bytes, Names, Moment}
use Rattle.txt_core.specs.Limits.{bucket_count, most_bytes}
use Rattle.outside.specs.Clocks.{Dial}
use Rattle.outside.specs.Faults.{Rose}
use Rattle.outside.specs.Paging.{PageMap}
use Rattle.outside.specs.declared.question.Answer.{Answer}
use Rattle.turn_cell.specs.History.{IsHistory}
use Rattle.blueprint.specs.States as blueprints
use Rattle.blueprint.specs.Objects.{BlueprintSteps}
use Rattle.nsv_bucket.specs.Steps.{ArraySteps}
use Rattle.sched_core.specs.Allowed as schedule_states
use Rattle.sched_core.specs.Steps.{ScheduleSteps}
use Rattle.server_host.specs.Hosts.{HostState}
use Rattle.tcl_eval.specs.State.{State}
use Rattle.tcl_eval.specs.declared.outcome.Outcome.{Outcome}
use Rattle.tcl_eval.specs.declared.outcome.Outcome.TheVariants as outcomes
use Rattle.ictl.specs.Main.{ends}
use Rattle.shared_state.specs.Views.{BlueEntry, empty_schedule}
use Rattle.shared_state.specs.Lines.{BucketEntry}
use Rattle.worker.specs.Turns.{Turn, IsLook, IsAnsweredLook, AreAsked, blueprint_turns, array_turns, schedule_turns}
use Rattle.worker.specs.Runs.{define_run}
use Rattle.worker.specs.Outside.{AreHeld, page_faults, RoseBy}
use Rattle.serve_run.specs.declared.ended.StartFault.{StartFault}
use Rattle.serve_run.specs.declared.ended.StartFault.TheVariants as start

-- ---- objects that nobody else uses

-- Turns on one bucket of the shared arrays from its opening, in which no array is: each finds the arrays as the one before left them.
abbrev pub IsBucketAlone : List BucketEntry → Type 0
IsBucketAlone = IsHistory (λ s. Unit {0}) ArraySteps 0 map.empty

-- A look at the blueprint, and then these turns, are all that was ever done with the objects: on each, the first turn finds the opening
-- (nothing was published on natives of these names, no array is there, nothing is scheduled), each next one what the one before it
-- left, and each is a legal step.
pub record AreAlone (names : Names) (look : BlueEntry) (turns : List Turn) : Type 0 where
  pub blueprint : IsHistory blueprints.Allowed BlueprintSteps 0 (blueprints.fresh names) (look ∷ blueprint_turns turns)
  pub arrays : (bucket : ℕ) → bucket < bucket_count → IsBucketAlone (array_turns bucket turns)
  pub schedule : IsHistory schedule_states.Allowed ScheduleSteps 0 empty_schedule (schedule_turns turns)

-- The definition run of a script at a moment, on the opening objects, alone, ends so. Its questions are answered by turns on the
-- objects and by the pages; a page's answer is the one that is held, where that is told, or that it couldn't be read, and the count of
-- faults rose by at least as many as of these there are.
pub record DefinesAlone (names : Names) (held : Option PageMap) (script : Bytes) (moment : Moment) (faults faults_after : ℕ) (outcome : Outcome)
    : Type 0 where
  pub look : BlueEntry
  pub turns : List Turn
  pub answers : List Answer
  pub is_look : IsLook look.call × IsAnsweredLook look
  pub alone : AreAlone names look turns
  pub asked : AreAsked moment (define_run names (blueprints.fresh names) script moment) turns answers
  pub pages : AreHeld held turns
  pub counts : RoseBy (page_faults turns) faults faults_after
  pub last : State HostState
  pub inside : ℕ
  pub ended : define_run names (blueprints.fresh names) script moment answers ≡ ends outcome last inside []

-- ---- the start page

-- where the pages are told, this is the one at the path; none is there
abbrev pub IsPage : Option PageMap → Bytes → Option Bytes → Type 0
IsPage held path page = (pages : PageMap) → held ≡ Some pages → map.get pages path ≡ page

-- where the clock is told, this is its next reading
abbrev pub IsReading : Option Dial → Moment → Type 0
IsReading clock moment = (dial : Dial) → clock ≡ Some dial → moment ≡ dial.moment

-- The page at the path is a script that isn't over the limit, whose definition run ended so.
pub record Starts (names : Names) (path : Bytes) (held : Option PageMap) (faults : ℕ) (clock : Option Dial) (faults_after : ℕ)
    (outcome : Outcome) : Type 0 where
  pub page : Bytes
  pub is_page : IsPage held path (Some page)
  pub fits : length page ≤ most_bytes
  pub moment : Moment
  pub is_reading : IsReading clock moment
  pub defines : DefinesAlone names held page moment faults faults_after outcome

-- the run ended well; in an error with this text
abbrev pub IsWell : Outcome → Type 0
IsWell outcome = (result : Bytes) × (outcome ≡ outcomes.Done zero result)

abbrev pub IsError : Bytes → Outcome → Type 0
IsError text outcome = (code : ℕ) × (outcome ≡ outcomes.Done (suc code) text)

-- What each fault of the start script says: no page is there; the count of faults rose; the page is over the limit; or its definition
-- run ended in this error, was spent, or went too deep.
abbrev pub StartsBadly : Names → Bytes → Option PageMap → ℕ → Option Dial → ℕ → StartFault → Type 0
StartsBadly names path held faults clock after start.NoPage = IsPage held path None
StartsBadly names path held faults clock after start.Unreadable = Rose faults after
StartsBadly names path held faults clock after start.TooLong = (page : Bytes) × IsPage held path (Some page) × (most_bytes < length page)
StartsBadly names path held faults clock after (start.Error text) = (outcome : Outcome) × Starts names path held faults clock after outcome × IsError text outcome
StartsBadly names path held faults clock after start.Spent = Starts names path held faults clock after outcomes.Spent
StartsBadly names path held faults clock after start.TooDeep = Starts names path held faults clock after outcomes.TooDeep

-- the start script ended well
abbrev pub StartsWell : Names → Bytes → Option PageMap → ℕ → Option Dial → ℕ → Type 0
StartsWell names path held faults clock after = (outcome : Outcome) × Starts names path held faults clock after outcome × IsWell outcome
