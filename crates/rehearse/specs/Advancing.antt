-- How the program's machine goes on by one actor. Nothing here has to be believed: no public contract cites it.
use Rattle.std.specs.Prelude.{◌≡◌, ◌↔◌, ℕ, ◌<◌, List, length, Bool, IsTrue, Some, slice_get, slice_set}
use Rattle.txt_core.specs.Names.{Names}
use Rattle.rehearse.specs.declared.listing.Listing.{Listing}
use Rattle.rehearse.specs.declared.machine.Machine.{Machine}
use Rattle.rehearse.specs.declared.worker.Task.TheVariants as tasks
use Rattle.rehearse.specs.declared.worker.Worker as code_worker
use Rattle.rehearse.specs.Events.{Actor, worker, scheduler}
use Rattle.rehearse.specs.Lines.{Line}
use Rattle.rehearse.specs.Objects.{Setting}
use Rattle.rehearse.specs.Schedules.{Agenda, ScheduleStep}
use Rattle.rehearse.specs.Steps.{Position, Step}
use Rattle.rehearse.specs.Playing.{setting_of, Moved, StepsDown, Turned, SchedulerDown, IsResting}

-- the scheduler is always there, and a worker where its number is below that of the workers
abbrev pub HasActor : Machine → Actor → Type 0
HasActor machine (worker number) = number < length machine.workers.items
HasActor machine scheduler = Unit {0}

-- The machine went on by the worker of this number, by Goes, behind which the worker is idle or not. What else it holds stays.
pub record ByWorker (Goes : ℕ → Setting → Position → List Line → Position → Type 0) (natives : Names) (number : ℕ) (idle : Bool)
    (before : Machine) (listing : Listing) (after : Machine) (listed : Listing) : Type 0 where
  pub taken : code_worker.Worker
  pub given : code_worker.Worker
  pub there : slice_get before.workers.items number ≡ Some taken
  pub moved : Moved Goes (setting_of natives before.setting) taken before.objects listing given after.objects listed
  pub is_idle : IsTrue idle ↔ (given.task ≡ tasks.Idle)
  pub started : after.started ≡ before.started
  pub setting : after.setting ≡ before.setting
  pub definer : after.definer ≡ before.definer
  pub scheduler_is : after.scheduler ≡ before.scheduler
  pub workers : after.workers.items ≡ slice_set before.workers.items number given

-- The machine went on by the scheduler.
pub record ByScheduler (Goes : Setting → Agenda → List Line → Agenda → Type 0) (natives : Names) (idle : Bool)
    (before : Machine) (listing : Listing) (after : Machine) (listed : Listing) : Type 0 where
  pub turned : Turned Goes (setting_of natives before.setting) before.scheduler before.objects listing after.scheduler after.objects listed
  pub is_idle : IsTrue idle ↔ IsResting after.scheduler
  pub started : after.started ≡ before.started
  pub setting : after.setting ≡ before.setting
  pub definer : after.definer ≡ before.definer
  pub workers : after.workers ≡ before.workers

-- one step of an actor, behind which the actor is idle or not
abbrev pub Advanced : Names → Actor → Bool → Machine → Listing → Machine → Listing → Type 0
Advanced natives (worker number) idle before listing after listed =
    (by : ByWorker Step natives number idle before listing after listed) × StepsDown by.taken by.given
Advanced natives scheduler idle before listing after listed =
    ByScheduler ScheduleStep natives idle before listing after listed × SchedulerDown before.scheduler after.scheduler
