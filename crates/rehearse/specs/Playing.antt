-- What the program's machine does with an event, and with a file: how its values stand for those of the other modules. Nothing here has
-- to be believed: no public contract cites it.
use Rattle.std.specs.Prelude.{◌≡◌, ◌≢◌, ℕ, zero, suc, ◌+◌, ◌-◌, ◌<◌, ◌≤◌, ◌⊎◌, List, [], ◌∷◌, ◌++◌, length, drop, min, Bool, true, false, IsTrue, Option, Some, None, MatchOption}
use Rattle.std.specs.List.{list_all}
use Rattle.txt_core.specs.Names.{Bytes, Names, Moment}
use Rattle.outside.specs.Faults.{Rose, last_count}
use Rattle.outside.specs.Reading.{Gives}
use Rattle.outside.specs.declared.source.ReadAnswer.{ReadAnswer}
use Rattle.outside.specs.declared.source.ReadAnswer.TheVariants.{Bytes as Gave, Failed}
use Rattle.blueprint.specs.Objects.{Reaches}
use Rattle.blueprint.specs.States.{State, Allowed}
use Rattle.blueprint.specs.declared.reply.BlueCall.{BlueCall}
use Rattle.blueprint.specs.declared.reply.BlueCall.TheVariants as calls
use Rattle.outside.specs.Writing.{Gains}
use Rattle.outside.specs.declared.question.Answer.{Answer}
use Rattle.http_req.specs.declared.request.Request.{Request}
use Rattle.tcl_eval.specs.declared.outcome.Outcome.{Outcome}
use Rattle.ictl.specs.Falls.{IsEnd, Falls, number_of, first_number}
use Rattle.ictl.specs.Interps.{IsNew, IsSound, IsSameRun, UnlessNoMemory, Stands, StandsOn, interp_state}
use Rattle.ictl.specs.Interps as interps
use Rattle.ictl.specs.Visits.{visit_of}
use Rattle.ictl.specs.declared.interp.Interp.{Interp}
use Rattle.ictl.specs.declared.next.Next.{Next}
use Rattle.ictl.specs.declared.next.Next.TheVariants as nexts
use Rattle.ictl.specs.Main.{Progress, Main, Define, behind}
use Rattle.ictl.specs.Main as runs_of
use Rattle.serving.specs.Connections.{asks_close, is_head_only, most_served}
use Rattle.rehearse.specs.declared.answer.Rehearsal.{Rehearsal}
use Rattle.rehearse.specs.declared.answer.Rehearsal.TheVariants as answers
use Rattle.rehearse.specs.declared.intake.Stopped.{Stopped}
use Rattle.rehearse.specs.declared.intake.Stopped.TheVariants as stops
use Rattle.rehearse.specs.declared.keeper.Keeper.{Keeper}
use Rattle.rehearse.specs.declared.listing.Closing as code_closing
use Rattle.rehearse.specs.declared.listing.Closing.TheVariants as code_closings
use Rattle.rehearse.specs.declared.listing.Listing.{Listing}
use Rattle.rehearse.specs.declared.machine.Machine.{Machine}
use Rattle.rehearse.specs.declared.objects.Objects.{Objects}
use Rattle.rehearse.specs.declared.defining.Run.{Run}
use Rattle.rehearse.specs.declared.playback.Play.{Play}
use Rattle.rehearse.specs.declared.scheduler.Running.{Running}
use Rattle.rehearse.specs.declared.scheduler.Scheduler as code_scheduler
use Rattle.rehearse.specs.declared.setting.Setting as code_setting
use Rattle.rehearse.specs.declared.tally.Tally.{Tally}
use Rattle.rehearse.specs.declared.worker.Connection as code_connection
use Rattle.rehearse.specs.declared.worker.UnderWay.{UnderWay}
use Rattle.rehearse.specs.declared.worker.Task.{Task}
use Rattle.rehearse.specs.declared.worker.Task.TheVariants as tasks
use Rattle.rehearse.specs.declared.worker.Worker as code_worker
use Rattle.rehearse.specs.Defining.{Defining, Settles, define_progress, define_line}
use Rattle.rehearse.specs.Events.{Event, most_file, spelled, file_of}
use Rattle.txt_core.specs.Limits.{most_workers}
use Rattle.rehearse.specs.Files.{whole, ComesNext, Opens, Holds}
use Rattle.rehearse.specs.Lines.{Line, Closing, ended, closing, truncated, refused, spent, listing_of}
use Rattle.rehearse.specs.Objects.{Setting, edition_of}
use Rattle.rehearse.specs.Plays.{MayCome, Does, Plays}
use Rattle.rehearse.specs.Runs.{request_progress, script_progress}
use Rattle.rehearse.specs.Rehearsing.{Outside, KeepsCounts, Ends}
use Rattle.rehearse.specs.Schedules.{Agenda, ScheduleStep}
use Rattle.rehearse.specs.Steps.{Position, Step, IsBetween, IsServing}
use Rattle.rehearse.specs.Intakes.{IntakeState}
use Rattle.rehearse.specs.Reading.{is_other}
use Rattle.rehearse.specs.Summary.{tally_of, with_lines}
use Rattle.rehearse.specs.World.{Open, Connection, Worker, idle, new_connection, begun_request, OpenScript, Scheduler, World}

-- ---- what the program shows

-- what is around, with natives of these names
abbrev pub setting_of : Names → code_setting.Setting → Setting
setting_of natives setting = record { natives = natives; moment = setting.moment; pages = setting.pages }

abbrev pub closing_of : code_closing.Closing → Closing
closing_of code_closings.Ended = ended
closing_of code_closings.Closing = closing
closing_of (code_closings.Truncated have) = truncated have
closing_of (code_closings.Refused status) = refused status
closing_of code_closings.Spent = spent

-- These entries were told: they stand behind what was told before, and were counted.
abbrev pub Tells : Listing → List Line → Listing → Type 0
Tells before lines after =
    (after.text ≡ before.text ++ listing_of lines) × (after.tally ≡ with_lines before.tally lines)

-- a publication or a save, and no look
abbrev pub IsPut : BlueCall → Type 0
IsPut (calls.Look epoch) = ⊥
IsPut (calls.Publish defs) = Unit {0}
IsPut (calls.Save script) = Unit {0}

-- ---- interpreters

-- An interpreter was made from the blueprint as it stood once, of which the one now has come.
pub record IsOn (natives : Names) (now : State) (interp : Interp) : Type 0 where
  pub earlier : State
  pub allowed : Allowed earlier
  pub names : earlier.natives ≡ natives
  pub reaches : Reaches earlier now
  pub blueprint : interp.blueprint.value ≡ edition_of earlier

-- One in which a run may begin is as newly made, on the blueprint as it is published now.
abbrev pub IsRenewed : Names → State → Interp → Type 0
IsRenewed natives now interp = IsNew natives interp × (interp.blueprint.value ≡ edition_of now) × IsOn natives now interp

-- One that is kept is as newly made. The blueprint has built-in names beside the natives of these names.
abbrev pub KeepsOn : Names → State → Keeper → Type 0
KeepsOn natives now keeper =
    (now.natives ≡ natives) × MatchOption keeper.interp (Unit {0}) (λ interp. IsNew natives interp × IsOn natives now interp)

-- One that is under way can be made as newly made.
pub record IsUnderWay (natives : Names) (now : State) (interp : Interp) : Type 0 where
  pub sound : IsSound natives interp
  pub on : IsOn natives now interp

-- An interpreter that answered this, and was given these answers, stands for a run, where the runs inside wrote something.
abbrev pub RunsFor : Names → (List Answer → Progress) → Next → Interp → List Answer → Type 0
RunsFor natives run next interp given = (inside : ℕ) × Stands natives run next inside interp given

-- The run of a request began in an interpreter, which came to this.
pub record RequestBegan (natives : Names) (request : Request) (moment : Moment) (next : Next) (made old : Interp) : Type 0 where
  pub runs : (took : ℕ) × Stands natives (Main natives old.blueprint.value request moment) next took made []
  pub visit : UnlessNoMemory next ((made.visit ≡ visit_of natives old.blueprint.value request) × (made.moment ≡ moment))
  pub blueprint : made.blueprint.value ≡ old.blueprint.value
  pub sound : IsSound natives made
  pub falls : Falls next made first_number

-- The same of a scheduled script.
pub record ScriptBegan (natives : Names) (script : Bytes) (moment : Moment) (next : Next) (made old : Interp) : Type 0 where
  pub runs : (took : ℕ) × Stands natives (runs_of.Script natives old.blueprint.value script moment) next took made []
  pub blueprint : made.blueprint.value ≡ old.blueprint.value
  pub sound : IsSound natives made
  pub falls : Falls next made first_number

-- The same of a definition run.
pub record DefineBegan (natives : Names) (block : Bytes) (moment : Moment) (next : Next) (made old : Interp) : Type 0 where
  pub runs : (took : ℕ) × Stands natives (Define natives old.blueprint.value block moment) next took made []
  pub blueprint : made.blueprint.value ≡ old.blueprint.value
  pub sound : IsSound natives made
  pub falls : Falls next made first_number

-- An interpreter went on from its question with this answer, and came to this.
pub record Resumed (natives : Names) (answer : Answer) (next : Next) (made old : Interp) : Type 0 where
  pub runs : (took : ℕ) × StandsOn natives next took made old answer
  pub same : IsSameRun made old
  pub blueprint : made.blueprint.value ≡ old.blueprint.value
  pub sound : IsSound natives old → IsSound natives made
  pub falls : Falls next made (number_of old)

-- An interpreter went on behind its response, which was written whole, and came to this.
pub record WentBehind (natives : Names) (next : Next) (made old : Interp) : Type 0 where
  pub runs : (request : Request) → IsSound natives old → old.visit ≡ visit_of natives old.blueprint.value request
      → (took : ℕ) × ((inside : ℕ) → Stands natives (behind natives old.blueprint.value old.moment true request (interps.ending_of old.task) (interp_state old) inside) next (inside + took) made [])
  pub blueprint : made.blueprint.value ≡ old.blueprint.value
  pub sound : IsSound natives old → IsSound natives made
  pub falls : Falls next made first_number

-- ---- workers

-- the input that no request took
abbrev pub input_of : code_connection.Connection → Bytes
input_of connection = connection.carry ++ connection.source

-- The program's connection shows this one. Its count of the bytes of answers stands still where counters stop.
pub record ShowsConnection (code : code_connection.Connection) (connection : Connection) : Type 0 where
  pub input : connection.input ≡ input_of code
  pub requests : connection.requests ≡ code.requests
  pub answer_bytes : code.answer_bytes ≡ min connection.answer_bytes last_count

-- Until the response of the request is written, what the interpreter goes through is what the request does. Where memory wants, nothing
-- is said.
abbrev pub Visits : Names → Open → Interp → Bool → Next → Type 0
Visits natives request interp true next = Unit {0}
Visits natives request interp false next =
    UnlessNoMemory next ((interp.visit ≡ visit_of natives request.blueprint request.request) × (interp.moment ≡ request.moment))

-- The program serves this request.
pub record Serves (natives : Names) (serving : UnderWay) (request : Open) : Type 0 where
  pub blueprint : request.blueprint ≡ serving.run.interp.blueprint.value
  pub moment : request.moment ≡ serving.moment
  pub asks_close : asks_close request.request ≡ serving.asks_close
  pub head_only : is_head_only request.request ≡ serving.head_only
  pub written : request.written ≡ serving.written
  pub visits : Visits natives request serving.run.interp serving.written serving.run.next
  pub runs : RunsFor natives (request_progress natives request) serving.run.next serving.run.interp request.answers

abbrev pub ShowsTask : Names → Task → Worker → Type 0
ShowsTask natives tasks.Idle worker = worker ≡ idle
ShowsTask natives (tasks.Between code) worker =
    (connection : Connection) × IsBetween worker connection × ShowsConnection code connection
ShowsTask natives (tasks.Serving code serving) worker =
    (connection : Connection) × (request : Open) × IsServing worker connection request × ShowsConnection code connection
    × Serves natives serving request

-- A worker of the program shows this one.
abbrev pub ShowsWorker : Names → code_worker.Worker → Worker → Type 0
ShowsWorker natives code worker = ShowsTask natives code.task worker

-- the same of all workers, whose numbers rise by one from this one on
abbrev pub ShowsWorkers : Names → ℕ → List code_worker.Worker → List Worker → Type 0
ShowsWorkers natives number [] [] = Unit {0}
ShowsWorkers natives number [] (y ∷ ys) = ⊥
ShowsWorkers natives number (x ∷ xs) [] = ⊥
ShowsWorkers natives number (x ∷ xs) (y ∷ ys) = (x.number ≡ number) × ShowsWorker natives x y × ShowsWorkers natives (number + 1) xs ys

-- The worker has a connection with this input, of which nothing was used.
abbrev pub HasNew : code_worker.Worker → Bytes → Type 0
HasNew worker input =
    (connection : code_connection.Connection) × (worker.task ≡ tasks.Between connection)
    × ShowsConnection connection (new_connection input)

-- the worker, as it is at this
abbrev pub with_task : code_worker.Worker → Task → code_worker.Worker
with_task worker task = record worker { task = task }

-- one more request of the connection began
abbrev pub one_more : code_connection.Connection → code_connection.Connection
one_more connection = record connection { requests = connection.requests + 1 }

-- The worker serves this request of the connection, which began now.
abbrev pub HasBegun : Names → Setting → Objects → code_connection.Connection → Request → code_worker.Worker → Type 0
HasBegun natives setting objects connection request worker =
    (serving : UnderWay) × (worker.task ≡ tasks.Serving (one_more connection) serving)
    × Serves natives serving (begun_request setting objects request)

-- ---- a worker's steps

-- How many steps a run may take still that has no response before it: one for each question that may go out, and its end.
abbrev pub last_steps : Next → Interp → ℕ
last_steps (nexts.Asks question) interp = number_of interp + 2
last_steps (nexts.Write response) interp = 1
last_steps (nexts.Ended outcome) interp = 1
last_steps nexts.NoMemory interp = 1

-- The same up to the response: the response is a step too, and behind it more questions may go out.
abbrev pub first_steps : Next → Interp → ℕ
first_steps (nexts.Asks question) interp = number_of interp + first_number + 4
first_steps (nexts.Write response) interp = first_number + 3
first_steps (nexts.Ended outcome) interp = 1
first_steps nexts.NoMemory interp = 1

abbrev pub serving_steps : Bool → Next → Interp → ℕ
serving_steps true next interp = last_steps next interp
serving_steps false next interp = first_steps next interp

-- A request takes fewer steps than this: its part before the response, and that behind it, each have less than the first number left.
abbrev pub most_steps : ℕ
most_steps = first_number + first_number + 4

-- Where a request is under way its run can go on and stands for some request, and few steps are left to it; and one more may
-- begin only where the connection may have one.
abbrev pub IsTaskReady : Names → State → Task → Type 0
IsTaskReady natives now tasks.Idle = Unit {0}
IsTaskReady natives now (tasks.Between connection) = connection.requests < most_served
IsTaskReady natives now (tasks.Serving connection serving) =
    (connection.requests ≤ most_served) × IsUnderWay natives now serving.run.interp
    × ((request : Open) × Serves natives serving request)
    × (serving_steps serving.written serving.run.next serving.run.interp ≤ most_steps)

-- A worker is ready, where the blueprint is this now.
abbrev pub IsReady : Names → State → code_worker.Worker → Type 0
IsReady natives now worker = KeepsOn natives now worker.keeper × IsTaskReady natives now worker.task

-- The worker is ready, as it is at this.
abbrev pub IsReadyAt : Names → State → code_worker.Worker → Task → Type 0
IsReadyAt natives now worker task = IsReady natives now (with_task worker task)

-- One goes with each step of a worker that isn't idle: how many requests its connection may have still, and then how many steps the
-- one under way may take.
abbrev pub requests_left : Task → ℕ
requests_left tasks.Idle = 0
requests_left (tasks.Between connection) = (most_served - connection.requests) + 1
requests_left (tasks.Serving connection serving) = (most_served - connection.requests) + 1

-- The number that falls is that of the requests first, and then that of the steps.
abbrev pub task_steps : Task → ℕ
task_steps tasks.Idle = 0
task_steps (tasks.Between connection) = 0
task_steps (tasks.Serving connection serving) = serving_steps serving.written serving.run.next serving.run.interp

abbrev pub StepsDown : code_worker.Worker → code_worker.Worker → Type 0
StepsDown before after =
    (before.task ≢ tasks.Idle)
    → (requests_left after.task < requests_left before.task)
    ⊎ ((requests_left after.task ≡ requests_left before.task) × (task_steps after.task < task_steps before.task))

-- A worker went from its place to another by Goes, whatever worker it shows, and this was told.
abbrev pub Went : (ℕ → Setting → Position → List Line → Position → Type 0) → Setting
    → code_worker.Worker → Objects → Listing → code_worker.Worker → Objects → Listing → Type 0
Went Goes setting worker objects listing worker_after objects_after listed =
    (before : Worker) → ShowsWorker setting.natives worker before
    → (lines : List Line) × (after : Worker)
    × Goes worker.number setting (record { worker = before; objects = objects }) lines (record { worker = after; objects = objects_after })
    × ShowsWorker setting.natives worker_after after
    × Tells listing lines listed

-- The same, and the worker is ready again; the blueprint now is one of which that before could come to be this.
pub record Moved (Goes : ℕ → Setting → Position → List Line → Position → Type 0) (setting : Setting)
    (worker : code_worker.Worker) (objects : Objects) (listing : Listing)
    (worker_after : code_worker.Worker) (objects_after : Objects) (listed : Listing) : Type 0 where
  pub went : Went Goes setting worker objects listing worker_after objects_after listed
  pub ready : IsReady setting.natives objects_after.blueprint worker_after
  pub number : worker_after.number ≡ worker.number
  pub reaches : Reaches objects.blueprint objects_after.blueprint

-- one step
abbrev pub Stepped : Setting → code_worker.Worker → Objects → Listing → code_worker.Worker → Objects → Listing → Type 0
Stepped setting worker objects listing worker_after objects_after listed =
    Moved Step setting worker objects listing worker_after objects_after listed × StepsDown worker worker_after

-- one step of the worker, as it is at this
abbrev pub SteppedAt : Setting → code_worker.Worker → Task → Objects → Listing → code_worker.Worker → Objects → Listing → Type 0
SteppedAt setting worker task objects listing worker_after objects_after listed =
    Stepped setting (with_task worker task) objects listing worker_after objects_after listed

-- ---- the scheduler

abbrev pub IsResting : code_scheduler.Scheduler → Type 0
IsResting scheduler = (scheduler.running ≡ None) × (length scheduler.due ≤ scheduler.begun)

pub record ShowsScript (natives : Names) (running : Running) (script : OpenScript) : Type 0 where
  pub id : script.id ≡ running.id
  pub blueprint : script.blueprint ≡ running.run.interp.blueprint.value
  pub moment : script.moment ≡ running.moment
  pub runs : RunsFor natives (script_progress natives script) running.run.next running.run.interp script.answers

abbrev pub ShowsRunning : Names → Option Running → Option OpenScript → Type 0
ShowsRunning natives None None = Unit {0}
ShowsRunning natives None (Some script) = ⊥
ShowsRunning natives (Some running) None = ⊥
ShowsRunning natives (Some running) (Some script) = ShowsScript natives running script

pub record ShowsScheduler (natives : Names) (code : code_scheduler.Scheduler) (scheduler : Scheduler) : Type 0 where
  pub waiting : scheduler.waiting ≡ drop code.begun code.due
  pub running : ShowsRunning natives code.running scheduler.running

-- The run of a script can go on and stands for some scheduled script, and few steps are left to it.
abbrev pub IsScriptReady : Names → State → Running → Type 0
IsScriptReady natives now running =
    IsUnderWay natives now running.run.interp
    × ((script : OpenScript) × ShowsScript natives running script)
    × (last_steps running.run.next running.run.interp ≤ most_steps)

abbrev pub IsSchedulerReady : Names → State → code_scheduler.Scheduler → Type 0
IsSchedulerReady natives now scheduler =
    KeepsOn natives now scheduler.keeper × MatchOption scheduler.running (Unit {0}) (IsScriptReady natives now)

-- the scheduler, as this is under way
abbrev pub with_running : code_scheduler.Scheduler → Option Running → code_scheduler.Scheduler
with_running scheduler running = record scheduler { running = running }

-- The scheduler is ready, as this run of a script is under way.
abbrev pub IsReadyWith : Names → State → code_scheduler.Scheduler → Running → Type 0
IsReadyWith natives now scheduler running = IsSchedulerReady natives now (with_running scheduler (Some running))

abbrev pub running_steps : Option Running → ℕ
running_steps None = 0
running_steps (Some running) = last_steps running.run.next running.run.interp

abbrev pub SchedulerDown : code_scheduler.Scheduler → code_scheduler.Scheduler → Type 0
SchedulerDown before after =
    ¬ (IsResting before)
    → ((length after.due - after.begun) < (length before.due - before.begun))
    ⊎ (((length after.due - after.begun) ≡ (length before.due - before.begun)) × (running_steps after.running < running_steps before.running))

-- The scheduler went from its place to another by Goes, whatever scheduler it shows, and this was told; and it is ready again.
pub record Turned (Goes : Setting → Agenda → List Line → Agenda → Type 0) (setting : Setting)
    (code : code_scheduler.Scheduler) (objects : Objects) (listing : Listing)
    (code_after : code_scheduler.Scheduler) (objects_after : Objects) (listed : Listing) : Type 0 where
  pub went : (before : Scheduler) → ShowsScheduler setting.natives code before
      → (lines : List Line) × (after : Scheduler)
      × Goes setting (record { scheduler = before; objects = objects }) lines (record { scheduler = after; objects = objects_after })
      × ShowsScheduler setting.natives code_after after
      × Tells listing lines listed
  pub ready : IsSchedulerReady setting.natives objects_after.blueprint code_after
  pub reaches : Reaches objects.blueprint objects_after.blueprint

-- one step
abbrev pub ScheduleStepped : Setting → code_scheduler.Scheduler → Objects → Listing → code_scheduler.Scheduler → Objects → Listing → Type 0
ScheduleStepped setting code objects listing code_after objects_after listed =
    Turned ScheduleStep setting code objects listing code_after objects_after listed × SchedulerDown code code_after

-- one step of the scheduler, as this run of a script is under way
abbrev pub SteppedWith : Setting → code_scheduler.Scheduler → Running → Objects → Listing → code_scheduler.Scheduler → Objects → Listing → Type 0
SteppedWith setting code running objects listing code_after objects_after listed =
    ScheduleStepped setting (with_running code (Some running)) objects listing code_after objects_after listed

-- ---- definition runs

-- A run of the program stands for this one and the answers that it has had.
pub record DefinesAs (natives : Names) (run : Run) (seen : Defining) : Type 0 where
  pub blueprint : seen.blueprint ≡ run.run.interp.blueprint.value
  pub moment : seen.moment ≡ run.moment
  pub epoch : seen.epoch ≡ run.epoch
  pub runs : RunsFor natives (define_progress natives seen) run.run.next run.run.interp seen.answers

-- Whatever is told of the later run, from these objects on, is what is told of the earlier one.
abbrev pub Continues : Setting → Defining → Objects → Defining → Objects → Type 0
Continues setting earlier before later between =
    (line : Line) (after : Objects) → Settles setting later between line after → Settles setting earlier before line after

-- The question of a run was answered: whatever run it stood for, it stands now for one that goes on from there.
pub record WentOn (setting : Setting) (run : Run) (objects : Objects) (run_after : Run) (objects_after : Objects) : Type 0 where
  pub goes : (seen : Defining) → DefinesAs setting.natives run seen
      → (later : Defining) × DefinesAs setting.natives run_after later × Continues setting seen objects later objects_after
  pub ready : IsUnderWay setting.natives objects_after.blueprint run_after.run.interp
  pub reaches : Reaches objects.blueprint objects_after.blueprint
  pub falls : Falls run_after.run.next run_after.run.interp (number_of run.run.interp)

-- A run went on to its end: whatever run it stood for, this is told of it.
pub record Finished (setting : Setting) (run : Run) (objects : Objects) (outcome : Outcome) (run_after : Run) (objects_after : Objects) : Type 0 where
  pub settles : (seen : Defining) → DefinesAs setting.natives run seen
      → Settles setting seen objects (define_line run_after.epoch outcome) objects_after
  pub end_is : run_after.run.next ≡ nexts.Ended outcome
  pub is_end : IsEnd outcome
  pub ready : IsUnderWay setting.natives objects_after.blueprint run_after.run.interp
  pub reaches : Reaches objects.blueprint objects_after.blueprint

-- A run was played to its end, which was told.
abbrev pub PlayedToItsEnd : Setting → Defining → Objects → Listing → Objects → Listing → Type 0
PlayedToItsEnd setting run before listing after listed =
    (line : Line) × Settles setting run before line after × Reaches before.blueprint after.blueprint × Tells listing (line ∷ []) listed

-- ---- events

-- The machine shows this world, with natives of these names.
pub record Shows (natives : Names) (machine : Machine) (world : World) : Type 0 where
  pub started : world.started ≡ machine.started
  pub setting : world.setting ≡ setting_of natives machine.setting
  pub objects : world.objects ≡ machine.objects
  pub scheduler : ShowsScheduler natives machine.scheduler world.scheduler
  pub workers : ShowsWorkers natives 0 machine.workers.items world.workers

abbrev pub AreReady : Names → State → List code_worker.Worker → Type 0
AreReady natives now [] = Unit {0}
AreReady natives now (x ∷ xs) = IsReady natives now x × AreReady natives now xs

-- All that takes steps is ready, with natives of these names.
pub record IsMachineReady (natives : Names) (machine : Machine) : Type 0 where
  pub definer : KeepsOn natives machine.objects.blueprint machine.definer.keeper
  pub scheduler : IsSchedulerReady natives machine.objects.blueprint machine.scheduler
  pub workers : AreReady natives machine.objects.blueprint machine.workers.items
  pub few : length machine.workers.items ≤ most_workers

-- The machine did what an event says and told it, whatever world it shows; or the event may not come, and nothing changed.
abbrev pub Did : Names → Bool → Event → Machine → Listing → Machine → Listing → Type 0
Did natives true e before listing after listed =
    (world : World) → Shows natives before world
    → MayCome world e
    × ((lines : List Line) × (next : World) × Does world e lines next × Shows natives after next × Tells listing lines listed)
Did natives false e before listing after listed =
    ((world : World) → Shows natives before world → ¬ (MayCome world e)) × (after ≡ before) × (listed ≡ listing)

-- An event was played so, whatever world the machine shows; or it may not come, and nothing changed.
abbrev pub Played : Names → Bool → Event → Machine → Listing → Machine → Listing → Type 0
Played natives true e before listing after listed =
    (world : World) → Shows natives before world
    → (lines : List Line) × (next : World) × Plays world e lines next × Shows natives after next × Tells listing lines listed
Played natives false e before listing after listed = Did natives false e before listing after listed

-- ---- reading in pieces

-- how a rehearsal ends of which the event of this number didn't come
abbrev pub by_left : Bytes → ℕ → Rehearsal
by_left [] event = answers.Done
by_left (byte ∷ left) event = answers.BadEvent event

abbrev pub rehearsal_end : Option Stopped → Bytes → ℕ → Rehearsal
rehearsal_end None left event = answers.BadEvent event
rehearsal_end (Some stops.AtEnd) left event = by_left left event
rehearsal_end (Some stops.AtFault) left event = answers.ReadFault

-- why a read is the last one
abbrev pub stop_of : ReadAnswer → Option Stopped
stop_of (Gave zero) = Some stops.AtEnd
stop_of (Gave (suc count)) = None
stop_of Failed = Some stops.AtFault

-- Why reading stopped: nothing is left to give, where the source told at first what it had; or its count rose since it was this.
abbrev pub StopsAt : Option Stopped → Option Bytes → Option Bytes → ℕ → ℕ → Type 0
StopsAt None told rest first faults = Unit {0}
StopsAt (Some stops.AtEnd) told rest first faults = (input : Bytes) → told ≡ Some input → rest ≡ Some []
StopsAt (Some stops.AtFault) told rest first faults = Rose first faults

-- Nothing of what was read and not played is lost, and more may have come. Where reading has stopped, the cause is one since any
-- earlier moment from which on the source gave what it gave.
pub record Fetches (before : IntakeState) (rest : Option Bytes) (faults : ℕ) (after : IntakeState) (rest_after : Option Bytes) (faults_after : ℕ) : Type 0 where
  pub given : Bytes
  pub gives : Gives rest given rest_after
  pub left : after.left ≡ before.left ++ given
  pub place : after.place ≡ before.place
  pub counts : faults ≤ faults_after
  pub stops : (told : Option Bytes) (all : Bytes) (first : ℕ) → Gives told all rest → first ≤ faults
      → StopsAt before.stopped told rest first faults → StopsAt after.stopped told rest_after first faults_after

-- a piece came, or reading has stopped
abbrev pub Took : Bool → IntakeState → IntakeState → Type 0
Took true before after = (length (before.left) < length (after.left)) × (after.stopped ≡ None)
Took false before after = (after.left ≡ before.left) × (after.stopped ≢ None)

-- none of these bytes is a newline
abbrev pub HasNoNewline : Bytes → Type 0
HasNoNewline bytes = IsTrue (list_all (is_other 10) bytes)

-- A line of so many bytes stands in front, with its newline; or no newline is there, and reading has stopped, or a line that ends
-- behind what is there goes past the last byte.
abbrev pub FindsLine : Option ℕ → IntakeState → Type 0
FindsLine (Some size) after =
    (line : Bytes) × (rest : Bytes) × (after.left ≡ line ++ 10 ∷ rest) × HasNoNewline line × (length line ≡ size)
FindsLine None after = HasNoNewline (after.left) × ((after.stopped ≢ None) ⊎ ((most_file - after.place) < length (after.left)))

-- so many bytes are there, or fewer, and reading has stopped
abbrev pub HasBytes : Bool → ℕ → IntakeState → Type 0
HasBytes true size after = size ≤ length (after.left)
HasBytes false size after = (length (after.left) < size) × (after.stopped ≢ None)

-- there are no more workers than there may be
abbrev pub HasFew : World → Type 0
HasFew world = length world.workers ≤ most_workers

-- no event comes next in what is left and these further bytes, in any world of few workers
abbrev pub IsNoEvent : IntakeState → Bytes → Type 0
IsNoEvent after more = (world : World) (e : Event) → HasFew world → ¬ (ComesNext world after.place (after.left ++ more) e)

-- The front of what is left may be an event of so many bytes, at least one, and is none of another length, whatever follows. Or no event
-- comes next in what is left; and reading has stopped, or something is left and none comes next whatever follows.
abbrev pub FindsEvent : Option ℕ → IntakeState → Type 0
FindsEvent (Some size) after =
    (0 < size) × (size ≤ length (after.left)) × (after.place + size ≤ most_file)
    × ((more : Bytes) (world : World) (e : Event) → HasFew world → ComesNext world after.place (after.left ++ more) e → length (spelled e) ≡ size)
FindsEvent None after =
    IsNoEvent after []
    × ((after.stopped ≢ None) ⊎ ((¬ (after.left ≡ [])) × ((more : Bytes) → IsNoEvent after more)))

-- ---- files

-- A rehearsal under way: the bytes that were given begin with the events that were played, which lead to a world that the machine
-- shows; of their listing this was passed on, and the rest stands ready.
pub record SoFar (natives : Names) (before now : Outside) (play : Play) : Type 0 where
  pub given : Bytes
  pub events : List Event
  pub lines : List Line
  pub world : World
  pub passed : Bytes
  pub read : Gives before.input given now.input
  pub counts : KeepsCounts before now
  pub stops : StopsAt play.intake.stopped before.input now.input before.read_faults now.read_faults
  pub opens : Opens natives given events lines world play.intake.left
  pub place : play.intake.place ≡ length (file_of events)
  pub counted : play.events ≡ length events
  pub shows : Shows natives play.machine world
  pub ready : IsMachineReady natives play.machine
  pub listed : listing_of lines ≡ passed ++ play.listing.text
  pub tally : play.listing.tally ≡ tally_of lines
  pub written : play.written ≡ length passed
  pub gained : Gains before.output passed now.output

-- The event of so many bytes in front came and stands told; or it may not come, and all is as it was.
abbrev pub PlaysOne : Names → Bool → ℕ → Play → Play → Type 0
PlaysOne natives true size before after = (outside now : Outside) → SoFar natives outside now before → SoFar natives outside now after
PlaysOne natives false size before after =
    (after ≡ before)
    × ((more : Bytes) (world : World) → Shows natives before.machine world
    → (e : Event) → length (spelled e) ≡ size → ¬ (ComesNext world before.intake.place (before.intake.left ++ more) e))

-- What stood ready was passed on; or the sink failed, when it had taken so many bytes of the whole listing.
abbrev pub PassesOn : Names → Option Rehearsal → Outside → Outside → Play → Play → Outside → Type 0
PassesOn natives None outside now before after then = SoFar natives outside now before → SoFar natives outside then after × (after.listing.text ≡ [])
PassesOn natives (Some answer) outside now before after then = SoFar natives outside now before → Ends natives outside answer then

-- a fault that was met is one of the sink
abbrev pub IsOfSink : Option Rehearsal → Type 0
IsOfSink None = Unit {0}
IsOfSink (Some answers.Done) = ⊥
IsOfSink (Some (answers.BadEvent event)) = ⊥
IsOfSink (Some answers.ReadFault) = ⊥
IsOfSink (Some (answers.WriteFault sent)) = Unit {0}
IsOfSink (Some answers.NoMemory) = ⊥

-- what was counted of the whole input, where that is told
abbrev pub IsCounted : Names → Option Bytes → Rehearsal → Tally → Type 0
IsCounted natives told answers.Done tally =
    (input : Bytes) → told ≡ Some input → (events : List Event) × (lines : List Line) × Holds natives input events lines whole × (tally ≡ tally_of lines)
IsCounted natives told (answers.BadEvent event) tally = Unit {0}
IsCounted natives told answers.ReadFault tally = Unit {0}
IsCounted natives told (answers.WriteFault sent) tally = Unit {0}
IsCounted natives told answers.NoMemory tally = Unit {0}
