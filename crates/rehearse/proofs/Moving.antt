-- What the program's machine does with the events.
use Rattle.std.proofs.Common.{◌≡◌, ℕ, zero, suc, ◌+◌, ◌<◌, ◌≤◌, List, [], ◌∷◌, ◌++◌, length, get_or, set, true, false, Bool, Option, Some, None, refl, sym, subst, ap, ◌∙◌, arith, slice_get}
use Rattle.std.proofs.Math.ListN.{length-set}
use Rattle.std.specs.FinMap as map
use Rattle.std.proofs.lemmas.Option.{slice_get_within, slice_get-get_or, get_or_from_slice_get}
use Rattle.outside.specs.Paging.{PageMap}
use Rattle.txt_core.specs.Limits.{last_moment, most_workers}
use Rattle.blueprint.specs.Objects.{Reaches}
use Rattle.blueprint.specs.States.{State}
use Rattle.ictl.specs.declared.interp.Interp.{Interp}
use Rattle.rehearse.specs.declared.defining.Definer.{Definer}
use Rattle.rehearse.specs.declared.listing.Listing.{Listing}
use Rattle.rehearse.specs.declared.machine.Machine.{Machine}
use Rattle.rehearse.specs.declared.objects.Objects.{Objects}
use Rattle.rehearse.specs.declared.scheduler.Scheduler as code_scheduler
use Rattle.rehearse.specs.declared.worker.Task.{Task}
use Rattle.rehearse.specs.declared.worker.Task.TheVariants as tasks
use Rattle.rehearse.specs.declared.worker.Worker as code_worker
use Rattle.rehearse.specs.Defining.{begun_block, Settles}
use Rattle.rehearse.specs.Events.{Actor, worker, Event, workers, clock, page, define, connect, step, run, most_page, most_block, most_input}
use Rattle.rehearse.specs.Events as events
use Rattle.rehearse.specs.Lines.{Line}
use Rattle.rehearse.specs.Objects.{Setting}
use Rattle.rehearse.specs.Plays.{IsPath, Moves, Turns}
use Rattle.rehearse.specs.Schedules.{Agenda, ScheduleStep, ScheduleRuns}
use Rattle.rehearse.specs.Steps.{Position, Step, RunsUntilIdle}
use Rattle.rehearse.specs.World.{World, Worker, idle, connected, new_connection, opening, all_idle, with_setting, with_objects, with_workers, as_started, resting}
use Rattle.rehearse.specs.Playing.{Tells, KeepsOn, setting_of, ShowsTask, ShowsWorker, ShowsWorkers, HasNew, IsTaskReady, IsReady, AreReady, Moved, Turned, IsSchedulerReady, ShowsScheduler, PlayedToItsEnd, Shows, IsMachineReady, Did, Played}
use Rattle.rehearse.proofs.Standing.{keeps_later, scheduler_later, all_later}
use Rattle.rehearse.proofs.Telling.{tells_none}

-- ---- idle workers

-- new workers without connections, whose numbers count from this one
abbrev pub AreIdle : ℕ → List code_worker.Worker → Type 0
AreIdle number [] = Unit {0}
AreIdle number (x ∷ xs) = (x.task ≡ tasks.Idle) × (x.keeper.interp ≡ None) × (x.number ≡ number) × AreIdle (number + 1) xs

pub idle_more : (number : ℕ) (xs : List code_worker.Worker) (x : code_worker.Worker) → AreIdle number xs → x.task ≡ tasks.Idle → x.keeper.interp ≡ None → x.number ≡ number + length xs
    → AreIdle number (xs ++ x ∷ [])
idle_more number [] x h task kept here = (task, kept, omega (arith, here), tt)
idle_more number (y ∷ xs) x h task kept here = (h.0, h.1, h.2, idle_more (number + 1) xs x h.3 task kept (omega (arith, here)))

pub idle_shown : (names : List (List ℕ)) (number : ℕ) (xs : List code_worker.Worker) → AreIdle number xs → ShowsWorkers names number xs (all_idle (length xs))
idle_shown names number [] h = tt
idle_shown names number (x ∷ xs) h =
    (h.2, subst (λ (t : Task). ShowsTask names t idle) (sym h.0) refl, idle_shown names (number + 1) xs h.3)

pub idle_ready : (names : List (List ℕ)) (now : State) (number : ℕ) (xs : List code_worker.Worker) → now.natives ≡ names → AreIdle number xs → AreReady names now xs
idle_ready names now number [] same h = tt
idle_ready names now number (x ∷ xs) same h = (
  (
    subst (λ (o : Option Interp). KeepsOn names now (record { interp = o })) (sym h.1) (same, tt),
    subst (λ (t : Task). IsTaskReady names now t) (sym h.0) tt,
  ),
  idle_ready names now (number + 1) xs same h.3,
)

-- ---- workers, one by one

pub shows_length : (natives : List (List ℕ)) (number : ℕ) (xs : List code_worker.Worker) (ys : List Worker) → ShowsWorkers natives number xs ys → length xs ≡ length ys
shows_length natives number [] [] h = refl
shows_length natives number [] (y ∷ ys) h = absurd h
shows_length natives number (x ∷ xs) [] h = absurd h
shows_length natives number (x ∷ xs) (y ∷ ys) h = ap suc (shows_length natives (number + 1) xs ys h.2)

shows_at : (natives : List (List ℕ)) (number : ℕ) (xs : List code_worker.Worker) (ys : List Worker) (i : ℕ) (d : code_worker.Worker) (e : Worker) → ShowsWorkers natives number xs ys → i < length xs
    → ((get_or xs i d).number ≡ number + i) × ShowsWorker natives (get_or xs i d) (get_or ys i e)
shows_at natives number [] ys i d e h within = absurd (omega (arith, within))
shows_at natives number (x ∷ xs) [] i d e h within = absurd h
shows_at natives number (x ∷ xs) (y ∷ ys) zero d e h within = (omega (arith, h.0), h.1)
shows_at natives number (x ∷ xs) (y ∷ ys) (suc i) d e h within =
    let there = shows_at natives (number + 1) xs ys i d e h.2 (omega (arith, within)) in
    (omega (arith, there.0), there.1)

shows_set : (natives : List (List ℕ)) (number : ℕ) (xs : List code_worker.Worker) (ys : List Worker) (i : ℕ) (x : code_worker.Worker) (y : Worker) → ShowsWorkers natives number xs ys
    → x.number ≡ number + i → ShowsWorker natives x y → ShowsWorkers natives number (set xs i x) (set ys i y)
shows_set natives number [] [] i x y h n k = h
shows_set natives number [] (z ∷ ys) i x y h n k = absurd h
shows_set natives number (w ∷ xs) [] i x y h n k = absurd h
shows_set natives number (w ∷ xs) (z ∷ ys) zero x y h n k = (omega (arith, n), k, h.2)
shows_set natives number (w ∷ xs) (z ∷ ys) (suc i) x y h n k = (h.0, h.1, shows_set natives (number + 1) xs ys i x y h.2 (omega (arith, n)) k)

ready_at : (natives : List (List ℕ)) (now : State) (xs : List code_worker.Worker) (i : ℕ) (d : code_worker.Worker) → AreReady natives now xs → i < length xs → IsReady natives now (get_or xs i d)
ready_at natives now [] i d h within = absurd (omega (arith, within))
ready_at natives now (x ∷ xs) zero d h within = h.0
ready_at natives now (x ∷ xs) (suc i) d h within = ready_at natives now xs i d h.1 (omega (arith, within))

pub ready_set : (natives : List (List ℕ)) (now : State) (xs : List code_worker.Worker) (i : ℕ) (x : code_worker.Worker) → AreReady natives now xs → IsReady natives now x → AreReady natives now (set xs i x)
ready_set natives now [] i x h k = tt
ready_set natives now (w ∷ xs) zero x h k = (k, h.1)
ready_set natives now (w ∷ xs) (suc i) x h k = (h.0, ready_set natives now xs i x h.1 k)

pub ready_there : (natives : List (List ℕ)) (now : State) (xs : List code_worker.Worker) (i : ℕ) (taken : code_worker.Worker) → AreReady natives now xs → slice_get xs i ≡ Some taken → IsReady natives now taken
ready_there natives now xs i taken ready found =
    subst (IsReady natives now) (get_or_from_slice_get xs i taken taken found) (ready_at natives now xs i taken ready (slice_get_within xs i taken found))

-- the worker of a number, as the world has it
worker_at : (natives : List (List ℕ)) (xs : List code_worker.Worker) (ys : List Worker) (i : ℕ) (taken : code_worker.Worker) → ShowsWorkers natives 0 xs ys → slice_get xs i ≡ Some taken
    → (y : Worker) × (slice_get ys i ≡ Some y) × (taken.number ≡ i) × ShowsWorker natives taken y
worker_at natives xs ys i taken h found =
    let within : i < length xs = slice_get_within xs i taken found in
    let is_taken : get_or xs i taken ≡ taken = get_or_from_slice_get xs i taken taken found in
    let there = shows_at natives 0 xs ys i taken idle h within in
    let number : taken.number ≡ 0 + i = subst (λ (x : code_worker.Worker). x.number ≡ 0 + i) is_taken there.0 in (
      get_or ys i idle,
      slice_get-get_or ys i idle (omega (arith, within, shows_length natives 0 xs ys h)),
      omega (arith, number),
      subst (λ (x : code_worker.Worker). ShowsWorker natives x (get_or ys i idle)) is_taken there.1,
    )

-- what indexing gives stands there
pub found_at : (xs : List code_worker.Worker) (i : ℕ) (x : code_worker.Worker) → i < length xs → x ≡ get_or xs i x → slice_get xs i ≡ Some x
found_at xs i x within is = slice_get-get_or xs i x within ∙ ap (λ (w : code_worker.Worker). Some w) (sym is)

-- ---- the machine before the first event

pub shows_opening : (natives : List (List ℕ)) (machine : Machine) → machine.started ≡ false → setting_of natives machine.setting ≡ (opening natives).setting
    → machine.objects ≡ (opening natives).objects → ShowsScheduler natives machine.scheduler resting
    → ShowsWorkers natives 0 machine.workers.items (all_idle 1) → Shows natives machine (opening natives)
shows_opening natives machine started setting objects rests items = record {
  started = sym started;
  setting = sym setting;
  objects = sym objects;
  scheduler = rests;
  workers = items;
}

-- ---- the number of workers

pub opens : (natives : List (List ℕ)) (machine after : Machine) (count : ℕ) (listing : Listing) → machine.started ≡ false → 1 ≤ count → count ≤ 16
    → after.started ≡ machine.started → after.setting ≡ machine.setting → after.objects ≡ machine.objects → after.scheduler ≡ machine.scheduler
    → ShowsWorkers natives 0 after.workers.items (all_idle count)
    → Did natives true (workers count) machine listing after listing
opens natives machine after count listing first some few started setting objects scheduler items = λ world shows. (
  (shows.started ∙ first, some, few),
  (
    [],
    with_workers world (all_idle count),
    (refl, refl),
    record {
      started = shows.started ∙ sym started;
      setting = shows.setting ∙ ap (setting_of natives) (sym setting);
      objects = shows.objects ∙ sym objects;
      scheduler = subst (λ (s : code_scheduler.Scheduler). ShowsScheduler natives s world.scheduler) (sym scheduler) shows.scheduler;
      workers = items;
    },
    tells_none listing,
  ),
)

pub not_first : (natives : List (List ℕ)) (machine : Machine) (count : ℕ) (listing : Listing) → machine.started ≡ true → Did natives false (workers count) machine listing machine listing
not_first natives machine count listing started = (λ world shows may. let clash : true ≡ false = sym started ∙ sym shows.started ∙ may.0 in cc, refl, refl)

pub bad_count : (natives : List (List ℕ)) (machine : Machine) (count : ℕ) (listing : Listing) → ¬ ((1 ≤ count) × (count ≤ 16)) → Did natives false (workers count) machine listing machine listing
bad_count natives machine count listing bad = (λ world shows may. bad (may.1, may.2), refl, refl)

-- ---- the clock and the pages

-- the machine that differs in its setting alone
pub set_shown : (natives : List (List ℕ)) (machine after : Machine) (world : World) (setting : Setting) → Shows natives machine world
    → after.started ≡ machine.started → setting ≡ setting_of natives after.setting → after.objects ≡ machine.objects → after.scheduler ≡ machine.scheduler → after.workers ≡ machine.workers
    → Shows natives after (with_setting world setting)
set_shown natives machine after world setting shows started is objects scheduler same = record {
  started = shows.started ∙ sym started;
  setting = is;
  objects = shows.objects ∙ sym objects;
  scheduler = subst (λ (s : code_scheduler.Scheduler). ShowsScheduler natives s world.scheduler) (sym scheduler) shows.scheduler;
  workers = subst (λ (xs : List code_worker.Worker). ShowsWorkers natives 0 xs world.workers) (ap (λ (v : _). v.items) (sym same)) shows.workers;
}

pub sets : (natives : List (List ℕ)) (machine after : Machine) (moment : ℕ) (listing : Listing) → moment ≤ last_moment
    → after.started ≡ machine.started → after.setting ≡ record machine.setting { moment = moment } → after.objects ≡ machine.objects → after.scheduler ≡ machine.scheduler → after.workers ≡ machine.workers
    → Did natives true (clock moment) machine listing after listing
sets natives machine after moment listing in_time started setting objects scheduler same = λ world shows. (
  in_time,
  (
    [],
    with_setting world (record world.setting { moment = moment }),
    (refl, refl),
    set_shown natives machine after world (record world.setting { moment = moment }) shows started
        (ap (λ (s : Setting). let t : Setting = record s { moment = moment } in t) shows.setting ∙ ap (setting_of natives) (sym setting)) objects scheduler same,
    tells_none listing,
  ),
)

pub too_late : (natives : List (List ℕ)) (machine : Machine) (moment : ℕ) (listing : Listing) → last_moment < moment → Did natives false (clock moment) machine listing machine listing
too_late natives machine moment listing late = (λ world shows may. omega (arith, may, late), refl, refl)

pub pages_set : (natives : List (List ℕ)) (machine after : Machine) (path text key value : List ℕ) (listing : Listing) → IsPath path → length text ≤ most_page
    → key ≡ path → value ≡ text → after.setting.pages ≡ map.insert machine.setting.pages key value → after.setting.moment ≡ machine.setting.moment
    → after.started ≡ machine.started → after.objects ≡ machine.objects → after.scheduler ≡ machine.scheduler → after.workers ≡ machine.workers
    → Did natives true (page path text) machine listing after listing
pages_set natives machine after path text key value listing is_path fits same_key same_value pages moment started objects scheduler same = λ world shows.
    let set : after.setting.pages ≡ map.insert machine.setting.pages path text =
    pages
    ∙ ap (λ (k : List ℕ). map.insert machine.setting.pages k value) same_key
    ∙ ap (λ (v : List ℕ). map.insert machine.setting.pages path v) same_value in
    let seen : setting_of natives after.setting ≡ record (setting_of natives machine.setting) { pages = map.insert machine.setting.pages path text } =
    ap (λ (m : ℕ). let s : Setting = record { natives = natives; moment = m; pages = after.setting.pages } in s) moment
    ∙ ap (λ (p : PageMap). let s : Setting = record { natives = natives; moment = machine.setting.moment; pages = p } in s) set in (
      (is_path, fits),
      (
        [],
        with_setting world (record world.setting { pages = map.insert world.setting.pages path text }),
        (refl, refl),
        set_shown natives machine after world (record world.setting { pages = map.insert world.setting.pages path text }) shows started
            (ap (λ (s : Setting). let t : Setting = record s { pages = map.insert s.pages path text } in t) shows.setting ∙ sym seen) objects scheduler same,
        tells_none listing,
      ),
    )

-- ---- definitions

-- a block was run to its end, whatever world the machine shows
pub defines : (natives : List (List ℕ)) (machine after : Machine) (block script : List ℕ) (listing listed : Listing) → length block ≤ most_block → script ≡ block
    → PlayedToItsEnd (setting_of natives machine.setting) (begun_block (setting_of natives machine.setting) machine.objects script) machine.objects listing after.objects listed
    → after.started ≡ machine.started → after.setting ≡ machine.setting → after.scheduler ≡ machine.scheduler → after.workers ≡ machine.workers
    → Did natives true (define block) machine listing after listed
defines natives machine after block script listing listed fits same settled started setting scheduler kept = λ world shows.
    let seen : Setting = setting_of natives machine.setting in
    let goes : Settles seen (begun_block seen machine.objects block) machine.objects settled.0 after.objects =
    subst (λ (b : List ℕ). Settles seen (begun_block seen machine.objects b) machine.objects settled.0 after.objects) same settled.1 in
    let here : Settles world.setting (begun_block world.setting world.objects block) world.objects settled.0 after.objects =
    subst (λ (s : Setting). Settles s (begun_block s world.objects block) world.objects settled.0 after.objects) (sym shows.setting)
    (subst (λ (o : Objects). Settles seen (begun_block seen o block) o settled.0 after.objects) (sym shows.objects) goes) in (
      fits,
      (
        settled.0 ∷ [],
        with_objects world after.objects,
        record { objects = after.objects; line = settled.0; settles = here; lines_are = refl; after_is = refl },
        record {
          started = shows.started ∙ sym started;
          setting = shows.setting ∙ ap (setting_of natives) (sym setting);
          objects = refl;
          scheduler = subst (λ (s : code_scheduler.Scheduler). ShowsScheduler natives s world.scheduler) (sym scheduler) shows.scheduler;
          workers = subst (λ (xs : List code_worker.Worker). ShowsWorkers natives 0 xs world.workers) (ap (λ (v : _). v.items) (sym kept)) shows.workers;
        },
        settled.3,
      ),
    )

-- ---- connections

free_shown : (natives : List (List ℕ)) (task : Task) (y : Worker) → ShowsTask natives task y → task ≡ tasks.Idle → y ≡ idle
free_shown natives task y h e = subst (λ (t : Task). ShowsTask natives t y) e h

busy_shown : (natives : List (List ℕ)) (task : Task) (y : Worker) → ShowsTask natives task y → ¬ (task ≡ tasks.Idle) → ¬ (y ≡ idle)
busy_shown natives tasks.Idle y h busy e = busy refl
busy_shown natives (tasks.Between code) y h busy e = let f : connected h.0 ≡ idle = sym h.1.0 ∙ e in cc
busy_shown natives (tasks.Serving code serving) y h busy e = let f : connected h.0 ≡ idle = sym h.2.0 ∙ e in cc

new_shown : (natives : List (List ℕ)) (x : code_worker.Worker) (input : List ℕ) → HasNew x input → ShowsWorker natives x (connected (new_connection input))
new_shown natives x input h =
    subst (λ (t : Task). ShowsTask natives t (connected (new_connection input))) (sym h.1) (new_connection input, (refl, refl), h.2)

pub connects : (natives : List (List ℕ)) (machine after : Machine) (number : ℕ) (input text : List ℕ) (listing : Listing) (taken given : code_worker.Worker) → length input ≤ most_input → text ≡ input
    → slice_get machine.workers.items number ≡ Some taken → taken.task ≡ tasks.Idle → HasNew given text → given.number ≡ taken.number
    → after.started ≡ machine.started → after.setting ≡ machine.setting → after.objects ≡ machine.objects → after.scheduler ≡ machine.scheduler → after.workers.items ≡ set machine.workers.items number given
    → Did natives true (connect number input) machine listing after listing
connects natives machine after number input text listing taken given fits same found free new number_is started setting objects scheduler items = λ world shows.
    let there = worker_at natives machine.workers.items world.workers number taken shows.workers found in
    let is_idle : there.0 ≡ idle = free_shown natives taken.task there.0 there.3 free in
    let has : HasNew given input = subst (λ (t : List ℕ). HasNew given t) same new in (
      (there.1 ∙ ap (λ (w : Worker). Some w) is_idle, fits),
      (
        [],
        with_workers world (set world.workers number (connected (new_connection input))),
        (refl, refl),
        record {
          started = shows.started ∙ sym started;
          setting = shows.setting ∙ ap (setting_of natives) (sym setting);
          objects = shows.objects ∙ sym objects;
          scheduler = subst (λ (s : code_scheduler.Scheduler). ShowsScheduler natives s world.scheduler) (sym scheduler) shows.scheduler;
          workers =
              subst (λ (xs : List code_worker.Worker). ShowsWorkers natives 0 xs (set world.workers number (connected (new_connection input)))) (sym items)
              (shows_set natives 0 machine.workers.items world.workers number given (connected (new_connection input)) shows.workers
              (omega (arith, number_is, there.2))
              (new_shown natives given input has));
        },
        tells_none listing,
      ),
    )

there_within : (natives : List (List ℕ)) (xs : List code_worker.Worker) (ys : List Worker) (i : ℕ) (y : Worker) → ShowsWorkers natives 0 xs ys → slice_get ys i ≡ Some y → i < length xs
there_within natives xs ys i y h e = let w : i < length ys = slice_get_within ys i y e in omega (arith, w, shows_length natives 0 xs ys h)

pub no_connection_there : (natives : List (List ℕ)) (machine : Machine) (number : ℕ) (input : List ℕ) (listing : Listing) → length machine.workers.items ≤ number → Did natives false (connect number input) machine listing machine listing
no_connection_there natives machine number input listing past = (
  λ world shows may.
      let w : number < length machine.workers.items = there_within natives machine.workers.items world.workers number idle shows.workers may.0 in
      omega (arith, w, past),
  refl,
  refl,
)

pub worker_busy : (natives : List (List ℕ)) (machine : Machine) (number : ℕ) (input : List ℕ) (listing : Listing) (taken : code_worker.Worker)
    → slice_get machine.workers.items number ≡ Some taken → ¬ (taken.task ≡ tasks.Idle) → Did natives false (connect number input) machine listing machine listing
worker_busy natives machine number input listing taken found busy = (
  λ world shows may.
      let there = worker_at natives machine.workers.items world.workers number taken shows.workers found in
      let same : there.0 ≡ idle = let both : Some there.0 ≡ Some idle = sym there.1 ∙ may.0 in cc in
      busy_shown natives taken.task there.0 there.3 busy same,
  refl,
  refl,
)

-- ---- a worker that goes to another place

abbrev Way : Type 1
Way = ℕ → Setting → Position → List Line → Position → Type 0

moves : (natives : List (List ℕ)) (Goes : Way) (machine after : Machine) (number : ℕ) (listing listed : Listing) (taken given : code_worker.Worker) → slice_get machine.workers.items number ≡ Some taken
    → Moved Goes (setting_of natives machine.setting) taken machine.objects listing given after.objects listed
    → after.started ≡ machine.started → after.setting ≡ machine.setting → after.scheduler ≡ machine.scheduler → after.workers.items ≡ set machine.workers.items number given
    → (world : World) → Shows natives machine world
    → (lines : List Line) × (next : World) × Moves Goes world number lines next × Shows natives after next × Tells listing lines listed
moves natives Goes machine after number listing listed taken given found moved started setting scheduler items world shows =
    let seen : Setting = setting_of natives machine.setting in
    let there = worker_at natives machine.workers.items world.workers number taken shows.workers found in
    let w = moved.went there.0 there.3 in
    let goes : Goes number world.setting (record { worker = there.0; objects = world.objects }) w.0 (record { worker = w.1; objects = after.objects }) =
    subst (λ (s : Setting). Goes number s (record { worker = there.0; objects = world.objects }) w.0 (record { worker = w.1; objects = after.objects })) (sym shows.setting)
    (subst (λ (o : Objects). Goes number seen (record { worker = there.0; objects = o }) w.0 (record { worker = w.1; objects = after.objects })) (sym shows.objects)
    (subst (λ (n : ℕ). Goes n seen (record { worker = there.0; objects = machine.objects }) w.0 (record { worker = w.1; objects = after.objects })) there.2 w.2)) in (
      w.0,
      record world { objects = after.objects; workers = set world.workers number w.1 },
      record { mover = there.0; place = record { worker = w.1; objects = after.objects }; there = there.1; goes = goes; after_is = refl },
      record {
        started = shows.started ∙ sym started;
        setting = shows.setting ∙ ap (setting_of natives) (sym setting);
        objects = refl;
        scheduler = subst (λ (s : code_scheduler.Scheduler). ShowsScheduler natives s world.scheduler) (sym scheduler) shows.scheduler;
        workers =
            subst (λ (xs : List code_worker.Worker). ShowsWorkers natives 0 xs (set world.workers number w.1)) (sym items)
            (shows_set natives 0 machine.workers.items world.workers number given w.1 shows.workers (omega (arith, moved.number, there.2)) w.3);
      },
      w.4,
    )

there_is : (natives : List (List ℕ)) (machine : Machine) (world : World) (number : ℕ) (taken : code_worker.Worker) → slice_get machine.workers.items number ≡ Some taken → Shows natives machine world → number < length world.workers
there_is natives machine world number taken found shows =
    omega (arith, slice_get_within machine.workers.items number taken found, shows_length natives 0 machine.workers.items world.workers shows.workers)

pub steps_did : (natives : List (List ℕ)) (machine after : Machine) (number : ℕ) (listing listed : Listing) (taken given : code_worker.Worker) → slice_get machine.workers.items number ≡ Some taken
    → Moved Step (setting_of natives machine.setting) taken machine.objects listing given after.objects listed
    → after.started ≡ machine.started → after.setting ≡ machine.setting → after.scheduler ≡ machine.scheduler → after.workers.items ≡ set machine.workers.items number given
    → Did natives true (step (worker number)) machine listing after listed
steps_did natives machine after number listing listed taken given found moved started setting scheduler items = λ world shows.
    (there_is natives machine world number taken found shows, moves natives Step machine after number listing listed taken given found moved started setting scheduler items world shows)

pub runs_did : (natives : List (List ℕ)) (machine after : Machine) (number : ℕ) (listing listed : Listing) (taken given : code_worker.Worker) → slice_get machine.workers.items number ≡ Some taken
    → Moved RunsUntilIdle (setting_of natives machine.setting) taken machine.objects listing given after.objects listed
    → after.started ≡ machine.started → after.setting ≡ machine.setting → after.scheduler ≡ machine.scheduler → after.workers.items ≡ set machine.workers.items number given
    → Did natives true (run (worker number)) machine listing after listed
runs_did natives machine after number listing listed taken given found moved started setting scheduler items = λ world shows.
    (there_is natives machine world number taken found shows, moves natives RunsUntilIdle machine after number listing listed taken given found moved started setting scheduler items world shows)

nobody_there : (natives : List (List ℕ)) (machine : Machine) (world : World) (number : ℕ) → length machine.workers.items ≤ number → Shows natives machine world → ¬ (number < length world.workers)
nobody_there natives machine world number past shows less = omega (arith, less, past, shows_length natives 0 machine.workers.items world.workers shows.workers)

pub no_step_there : (natives : List (List ℕ)) (machine : Machine) (number : ℕ) (listing : Listing) → length machine.workers.items ≤ number → Did natives false (step (worker number)) machine listing machine listing
no_step_there natives machine number listing past = (λ world shows may. nobody_there natives machine world number past shows may, refl, refl)

pub no_run_there : (natives : List (List ℕ)) (machine : Machine) (number : ℕ) (listing : Listing) → length machine.workers.items ≤ number → Did natives false (run (worker number)) machine listing machine listing
no_run_there natives machine number listing past = (λ world shows may. nobody_there natives machine world number past shows may, refl, refl)

-- ---- the scheduler goes to another place

abbrev Turn : Type 1
Turn = Setting → Agenda → List Line → Agenda → Type 0

turns : (natives : List (List ℕ)) (Goes : Turn) (machine after : Machine) (listing listed : Listing)
    → Turned Goes (setting_of natives machine.setting) machine.scheduler machine.objects listing after.scheduler after.objects listed
    → after.started ≡ machine.started → after.setting ≡ machine.setting → after.workers ≡ machine.workers
    → (world : World) → Shows natives machine world
    → (lines : List Line) × (next : World) × Turns Goes world lines next × Shows natives after next × Tells listing lines listed
turns natives Goes machine after listing listed turned started setting same world shows =
    let seen : Setting = setting_of natives machine.setting in
    let w = turned.went world.scheduler shows.scheduler in
    let goes : Goes world.setting (record { scheduler = world.scheduler; objects = world.objects }) w.0 (record { scheduler = w.1; objects = after.objects }) =
    subst (λ (s : Setting). Goes s (record { scheduler = world.scheduler; objects = world.objects }) w.0 (record { scheduler = w.1; objects = after.objects })) (sym shows.setting)
    (subst (λ (o : Objects). Goes seen (record { scheduler = world.scheduler; objects = o }) w.0 (record { scheduler = w.1; objects = after.objects })) (sym shows.objects) w.2) in (
      w.0,
      record world { scheduler = w.1; objects = after.objects },
      record { agenda = record { scheduler = w.1; objects = after.objects }; goes = goes; after_is = refl },
      record {
        started = shows.started ∙ sym started;
        setting = shows.setting ∙ ap (setting_of natives) (sym setting);
        objects = refl;
        scheduler = w.3;
        workers = subst (λ (xs : List code_worker.Worker). ShowsWorkers natives 0 xs world.workers) (ap (λ (v : _). v.items) (sym same)) shows.workers;
      },
      w.4,
    )

pub schedule_stepped : (natives : List (List ℕ)) (machine after : Machine) (listing listed : Listing)
    → Turned ScheduleStep (setting_of natives machine.setting) machine.scheduler machine.objects listing after.scheduler after.objects listed
    → after.started ≡ machine.started → after.setting ≡ machine.setting → after.workers ≡ machine.workers
    → Did natives true (step events.scheduler) machine listing after listed
schedule_stepped natives machine after listing listed turned started setting same = λ world shows.
    (tt, turns natives ScheduleStep machine after listing listed turned started setting same world shows)

pub schedule_ran : (natives : List (List ℕ)) (machine after : Machine) (listing listed : Listing)
    → Turned ScheduleRuns (setting_of natives machine.setting) machine.scheduler machine.objects listing after.scheduler after.objects listed
    → after.started ≡ machine.started → after.setting ≡ machine.setting → after.workers ≡ machine.workers
    → Did natives true (run events.scheduler) machine listing after listed
schedule_ran natives machine after listing listed turned started setting same = λ world shows.
    (tt, turns natives ScheduleRuns machine after listing listed turned started setting same world shows)

-- ---- readiness

-- where the blueprint stays
pub ready_same : (natives : List (List ℕ)) (machine after : Machine) → IsMachineReady natives machine → after.objects ≡ machine.objects → after.definer ≡ machine.definer
    → after.scheduler ≡ machine.scheduler → AreReady natives machine.objects.blueprint after.workers.items → length after.workers.items ≤ most_workers → IsMachineReady natives after
ready_same natives machine after h objects definer scheduler held few = record {
  definer =
      subst (λ (o : Objects). KeepsOn natives o.blueprint after.definer.keeper) (sym objects)
      (subst (λ (d : Definer). KeepsOn natives machine.objects.blueprint d.keeper) (sym definer) h.definer);
  scheduler =
      subst (λ (o : Objects). IsSchedulerReady natives o.blueprint after.scheduler) (sym objects)
      (subst (λ (s : code_scheduler.Scheduler). IsSchedulerReady natives machine.objects.blueprint s) (sym scheduler) h.scheduler);
  workers = subst (λ (o : Objects). AreReady natives o.blueprint after.workers.items) (sym objects) held;
  few = few;
}

pub ready_kept : (natives : List (List ℕ)) (machine after : Machine) → IsMachineReady natives machine → after.objects ≡ machine.objects → after.definer ≡ machine.definer
    → after.scheduler ≡ machine.scheduler → after.workers ≡ machine.workers → IsMachineReady natives after
ready_kept natives machine after h objects definer scheduler held =
    ready_same natives machine after h objects definer scheduler
    (subst (λ (xs : List code_worker.Worker). AreReady natives machine.objects.blueprint xs) (ap (λ (v : _). v.items) (sym held)) h.workers)
    (subst (λ (xs : List code_worker.Worker). length xs ≤ most_workers) (ap (λ (v : _). v.items) (sym held)) h.few)

-- where it goes on by a worker
pub ready_moved : (natives : List (List ℕ)) (Goes : Way) (setting : Setting) (machine after : Machine) (number : ℕ) (listing listed : Listing) (taken given : code_worker.Worker)
    → IsMachineReady natives machine → setting.natives ≡ natives
    → Moved Goes setting taken machine.objects listing given after.objects listed → after.definer ≡ machine.definer → after.scheduler ≡ machine.scheduler
    → after.workers.items ≡ set machine.workers.items number given → IsMachineReady natives after
ready_moved natives Goes setting machine after number listing listed taken given h names moved definer scheduler items = record {
  definer =
      subst (λ (d : Definer). KeepsOn natives after.objects.blueprint d.keeper) (sym definer)
      (keeps_later natives machine.objects.blueprint after.objects.blueprint machine.definer.keeper moved.reaches h.definer);
  scheduler =
      subst (λ (s : code_scheduler.Scheduler). IsSchedulerReady natives after.objects.blueprint s) (sym scheduler)
      (scheduler_later natives machine.objects.blueprint after.objects.blueprint machine.scheduler moved.reaches h.scheduler);
  workers =
      subst (λ (xs : List code_worker.Worker). AreReady natives after.objects.blueprint xs) (sym items)
      (ready_set natives after.objects.blueprint machine.workers.items number given
      (all_later natives machine.objects.blueprint after.objects.blueprint machine.workers.items moved.reaches h.workers)
      (subst (λ (n : List (List ℕ)). IsReady n after.objects.blueprint given) names moved.ready));
  few = subst (λ (xs : List code_worker.Worker). length xs ≤ most_workers) (sym items) (subst (λ (n : ℕ). n ≤ most_workers) (sym (length-set machine.workers.items number given)) h.few);
}

-- where it goes on otherwise
pub ready_on : (natives : List (List ℕ)) (machine after : Machine) → IsMachineReady natives machine → Reaches machine.objects.blueprint after.objects.blueprint
    → KeepsOn natives after.objects.blueprint after.definer.keeper → IsSchedulerReady natives after.objects.blueprint after.scheduler
    → after.workers ≡ machine.workers → IsMachineReady natives after
ready_on natives machine after h reaches keeps turns same = record {
  definer = keeps;
  scheduler = turns;
  workers =
      subst (λ (xs : List code_worker.Worker). AreReady natives after.objects.blueprint xs) (ap (λ (v : _). v.items) (sym same))
      (all_later natives machine.objects.blueprint after.objects.blueprint machine.workers.items reaches h.workers);
  few = subst (λ (xs : List code_worker.Worker). length xs ≤ most_workers) (ap (λ (v : _). v.items) (sym same)) h.few;
}

-- ---- an event that came is not the first any more

pub played_came : (natives : List (List ℕ)) (e : Event) (before between after : Machine) (listing listed : Listing) → Did natives true e before listing between listed
    → after.started ≡ true → after.setting ≡ between.setting → after.objects ≡ between.objects → after.scheduler ≡ between.scheduler → after.workers ≡ between.workers
    → Played natives true e before listing after listed
played_came natives e before between after listing listed did started setting objects scheduler same = λ world shows.
    let d = did world shows in (
      d.1.0,
      as_started d.1.1,
      record { done = d.1.1; may_come = d.0; does = d.1.2; after_is = refl },
      record {
        started = sym started;
        setting = d.1.3.setting ∙ ap (setting_of natives) (sym setting);
        objects = d.1.3.objects ∙ sym objects;
        scheduler = subst (λ (s : code_scheduler.Scheduler). ShowsScheduler natives s d.1.1.scheduler) (sym scheduler) d.1.3.scheduler;
        workers = subst (λ (xs : List code_worker.Worker). ShowsWorkers natives 0 xs d.1.1.workers) (ap (λ (v : _). v.items) (sym same)) d.1.3.workers;
      },
      d.1.4,
    )

pub played_by : (natives : List (List ℕ)) (came : Bool) (e : Event) (before between after : Machine) (listing listed : Listing) → came ≡ true → Did natives came e before listing between listed
    → after.started ≡ true → after.setting ≡ between.setting → after.objects ≡ between.objects → after.scheduler ≡ between.scheduler → after.workers ≡ between.workers
    → Played natives true e before listing after listed
played_by natives came e before between after listing listed is did started setting objects scheduler same =
    played_came natives e before between after listing listed (subst (λ (b : Bool). Did natives b e before listing between listed) is did) started setting objects scheduler same

pub barred_by : (natives : List (List ℕ)) (came : Bool) (e : Event) (before after : Machine) (listing listed : Listing) → came ≡ false → Did natives came e before listing after listed → Played natives false e before listing after listed
barred_by natives came e before after listing listed is did = subst (λ (b : Bool). Did natives b e before listing after listed) is did
