-- What the events of a rehearsal do.
use Rattle.std.specs.Prelude.{◌≡◌, ℕ, ◌<◌, ◌≤◌, List, [], ◌∷◌, ◌++◌, length, false, slice_get, slice_set, ◌||◌, ◌==◌, Bool, Some}
use Rattle.std.specs.FinMap as map
use Rattle.std.specs.List.{list_any}
use Rattle.txt_core.specs.Names.{Bytes, Names, Moment}
use Rattle.txt_core.specs.Paths.{slash}
use Rattle.txt_core.specs.Limits.{last_moment, most_workers}
use Rattle.rehearse.specs.Events.{Actor, worker, scheduler, Event, workers, clock, page, define, connect, step, run, most_page, most_block, most_input}
use Rattle.rehearse.specs.Lines.{Line}
use Rattle.rehearse.specs.Objects.{Setting}
use Rattle.rehearse.specs.declared.objects.Objects.{Objects}
use Rattle.rehearse.specs.Defining.{begun_block, Settles}
use Rattle.rehearse.specs.Schedules.{Agenda, ScheduleStep, ScheduleRuns}
use Rattle.rehearse.specs.Steps.{Position, Step, RunsUntilIdle}
use Rattle.rehearse.specs.World.{World, Worker, idle, connected, new_connection, all_idle, opening, with_setting, with_objects, with_workers, as_started}

-- ---- which events may come

-- a word of a line has neither a space nor a newline
abbrev pub is_break : ℕ → Bool
is_break byte = byte == 32 || byte == 10

-- a path is a word that begins with a slash
abbrev pub IsPath : Bytes → Type 0
IsPath path = (rest : Bytes) × (path ≡ slash ∷ rest) × (list_any is_break rest ≡ false)

-- the scheduler is always there, and a worker where its number is below that of the workers
abbrev pub IsThere : World → Actor → Type 0
IsThere world (worker number) = number < length world.workers
IsThere world scheduler = Unit {0}

-- An event may come in a world by what it says and by which workers there are and are idle, whatever would come of it.
abbrev pub MayCome : World → Event → Type 0
-- the first event alone says how many workers there are: from 1 to 16
MayCome world (workers count) = (world.started ≡ false) × (1 ≤ count) × (count ≤ most_workers)
-- the moment is one that the clock can show
MayCome world (clock moment) = moment ≤ last_moment
-- the path is one, and the page isn't too long
MayCome world (page path text) = IsPath path × (length text ≤ most_page)
-- the block isn't too long
MayCome world (define block) = length block ≤ most_block
-- there is a worker of this number, it is idle, and the input isn't too long
MayCome world (connect number input) = (slice_get world.workers number ≡ Some idle) × (length input ≤ most_input)
-- the actor is there
MayCome world (step actor) = IsThere world actor
MayCome world (run actor) = IsThere world actor

-- ---- what is around

-- Nothing is told, and this is the world after it.
abbrev pub Quietly : World → List Line → World → Type 0
Quietly next lines after = (lines ≡ []) × (after ≡ next)

-- so many workers, all idle
abbrev pub SetsWorkers : World → ℕ → List Line → World → Type 0
SetsWorkers before count lines after = Quietly (with_workers before (all_idle count)) lines after

-- the clock shows this moment
abbrev pub SetsClock : World → Moment → List Line → World → Type 0
SetsClock before moment lines after = Quietly (with_setting before (record before.setting { moment = moment })) lines after

-- the page of a path is this text, whatever it was
abbrev pub SetsPage : World → Bytes → Bytes → List Line → World → Type 0
SetsPage before path text lines after =
    Quietly (with_setting before (record before.setting { pages = map.insert before.setting.pages path text })) lines after

-- the worker of this number has a connection with this input
abbrev pub Connects : World → ℕ → Bytes → List Line → World → Type 0
Connects before number input lines after =
    Quietly (with_workers before (slice_set before.workers number (connected (new_connection input)))) lines after

-- ---- what runs

-- A block is run on the blueprint and at the moment as they are, to its end, which is told.
pub record Defines (before : World) (block : Bytes) (lines : List Line) (after : World) : Type 0 where
  pub objects : Objects
  pub line : Line
  pub settles : Settles before.setting (begun_block before.setting before.objects block) before.objects line objects
  pub lines_are : lines ≡ line ∷ []
  pub after_is : after ≡ with_objects before objects

-- The worker of this number goes from its place to another, and so do the objects; the others stay.
pub record Moves (Goes : ℕ → Setting → Position → List Line → Position → Type 0) (before : World) (number : ℕ) (lines : List Line) (after : World) : Type 0 where
  pub mover : Worker
  pub place : Position
  pub there : slice_get before.workers number ≡ Some mover
  pub goes : Goes number before.setting (record { worker = mover; objects = before.objects }) lines place
  pub after_is : after ≡ record before { objects = place.objects; workers = slice_set before.workers number place.worker }

-- The scheduler does, and so do the objects.
pub record Turns (Goes : Setting → Agenda → List Line → Agenda → Type 0) (before : World) (lines : List Line) (after : World) : Type 0 where
  pub agenda : Agenda
  pub goes : Goes before.setting (record { scheduler = before.scheduler; objects = before.objects }) lines agenda
  pub after_is : after ≡ record before { scheduler = agenda.scheduler; objects = agenda.objects }

abbrev pub StepsActor : World → Actor → List Line → World → Type 0
StepsActor before (worker number) lines after = Moves Step before number lines after
StepsActor before scheduler lines after = Turns ScheduleStep before lines after

abbrev pub RunsActor : World → Actor → List Line → World → Type 0
RunsActor before (worker number) lines after = Moves RunsUntilIdle before number lines after
RunsActor before scheduler lines after = Turns ScheduleRuns before lines after

-- ---- events

-- What an event does, and what is told of it.
abbrev pub Does : World → Event → List Line → World → Type 0
Does before (workers count) lines after = SetsWorkers before count lines after
Does before (clock moment) lines after = SetsClock before moment lines after
Does before (page path text) lines after = SetsPage before path text lines after
Does before (define block) lines after = Defines before block lines after
Does before (connect number input) lines after = Connects before number input lines after
Does before (step actor) lines after = StepsActor before actor lines after
Does before (run actor) lines after = RunsActor before actor lines after

-- An event may come in a world, this is told of it, and that is the world after it.
pub record Plays (before : World) (e : Event) (lines : List Line) (after : World) : Type 0 where
  pub done : World
  pub may_come : MayCome before e
  pub does : Does before e lines done
  pub after_is : after ≡ as_started done

-- The listing of events that come one after another: what is told of each, one behind the other.
pub data Lists : World → List Event → List Line → World → Type 0 where
  no_event : {world : World} → Lists world [] [] world
  one_event : {before between after : World} {e : Event} {events : List Event} (lines others : List Line)
      → Plays before e lines between
      → Lists between events others after
      → Lists before (e ∷ events) (lines ++ others) after

-- A world that some events lead to, from the one before the first event on.
pub record Reached (natives : Names) (world : World) : Type 0 where
  pub events : List Event
  pub lines : List Line
  pub lists : Lists (opening natives) events lines world
