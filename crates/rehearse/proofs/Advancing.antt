-- What comes of an actor's steps.
use Rattle.std.proofs.Common.{◌≡◌, ℕ, ◌<◌, ◌≤◌, List, length, set, true, false, Bool, Option, Some, None, refl, sym, subst, ap, ◌∙◌, arith, slice_get, set-set}
use Rattle.std.proofs.Math.ListN.{length-set}
use Rattle.std.proofs.lemmas.List.{get_or-set_same}
use Rattle.std.proofs.lemmas.Option.{slice_get_within, slice_get-get_or}
use Rattle.rehearse.specs.declared.defining.Definer.{Definer}
use Rattle.rehearse.specs.declared.listing.Listing.{Listing}
use Rattle.rehearse.specs.declared.machine.Machine.{Machine}
use Rattle.rehearse.specs.declared.setting.Setting as code_setting
use Rattle.rehearse.specs.declared.worker.Task.TheVariants as tasks
use Rattle.rehearse.specs.declared.worker.Worker as code_worker
use Rattle.rehearse.specs.Events.{Actor, worker, scheduler, step, run}
use Rattle.rehearse.specs.Lines.{Line}
use Rattle.rehearse.specs.Objects.{Setting}
use Rattle.rehearse.specs.Schedules.{Agenda, ScheduleStep}
use Rattle.rehearse.specs.Steps.{Position, Step}
use Rattle.rehearse.specs.Playing.{setting_of, Stepped, ScheduleStepped, IsResting, IsMachineReady, KeepsOn, Did}
use Rattle.rehearse.specs.Advancing.{HasActor, ByWorker, ByScheduler, Advanced}
use Rattle.rehearse.proofs.Standing.{keeps_later}
use Rattle.rehearse.proofs.Moving.{steps_did, runs_did, no_step_there, no_run_there, schedule_stepped, schedule_ran, ready_moved, ready_on}
use Rattle.rehearse.proofs.Turning as turning
use Rattle.rehearse.proofs.Working as working

-- steps so far, at least one, of which none was taken by an actor that was idle by an earlier one
abbrev pub SoFar : List (List ℕ) → Actor → Bool → Machine → Listing → Machine → Listing → Type 0
SoFar natives (worker number) idle start listing now so_far = ByWorker working.Chain natives number idle start listing now so_far
SoFar natives scheduler idle start listing now so_far = ByScheduler turning.Chain natives idle start listing now so_far

-- ---- workers by number

placed : (xs : List code_worker.Worker) (number : ℕ) (taken given : code_worker.Worker) → slice_get xs number ≡ Some taken → slice_get (set xs number given) number ≡ Some given
placed xs number taken given there =
    let within : number < length xs = slice_get_within xs number taken there in
    slice_get-get_or (set xs number given) number given (omega (arith, within, length-set xs number given))
    ∙ ap (λ (w : code_worker.Worker). Some w) (get_or-set_same xs number given given within)

-- the worker that an actor's steps gave is the one that stands there
stands : (xs ys : List code_worker.Worker) (number : ℕ) (taken given found : code_worker.Worker) → slice_get xs number ≡ Some taken → ys ≡ set xs number given → slice_get ys number ≡ Some found
    → found ≡ given
stands xs ys number taken given found there is at =
    let both : Some found ≡ Some given = sym at ∙ ap (λ (zs : List code_worker.Worker). slice_get zs number) is ∙ placed xs number taken given there in cc

busy_by : {P : Type 0} (idle : Bool) → idle ≡ false → (P → idle ≡ true) → ¬ P
busy_by idle busy is p = let yes : idle ≡ true = is p in absurd (cc (yes, busy))

-- ---- readiness

pub worker_ready : (natives : List (List ℕ)) (Goes : ℕ → Setting → Position → List Line → Position → Type 0) (number : ℕ) (idle : Bool) (before : Machine) (listing : Listing) (after : Machine) (listed : Listing)
    → IsMachineReady natives before → ByWorker Goes natives number idle before listing after listed → IsMachineReady natives after
worker_ready natives Goes number idle before listing after listed ready by =
    ready_moved natives Goes (setting_of natives before.setting) before after number listing listed by.taken by.given ready refl by.moved by.definer by.scheduler_is by.workers

pub scheduler_ready : (natives : List (List ℕ)) (Goes : Setting → Agenda → List Line → Agenda → Type 0) (idle : Bool) (before : Machine) (listing : Listing) (after : Machine) (listed : Listing)
    → IsMachineReady natives before → ByScheduler Goes natives idle before listing after listed → IsMachineReady natives after
scheduler_ready natives Goes idle before listing after listed ready by =
    ready_on natives before after ready by.turned.reaches
    (subst (λ (d : Definer). KeepsOn natives after.objects.blueprint d.keeper) (sym by.definer)
    (keeps_later natives before.objects.blueprint after.objects.blueprint before.definer.keeper by.turned.reaches ready.definer))
    by.turned.ready by.workers

pub advanced_ready : (natives : List (List ℕ)) (actor : Actor) (idle : Bool) (before : Machine) (listing : Listing) (after : Machine) (listed : Listing)
    → IsMachineReady natives before → Advanced natives actor idle before listing after listed → IsMachineReady natives after
advanced_ready natives (worker number) idle before listing after listed ready by = worker_ready natives Step number idle before listing after listed ready by.0
advanced_ready natives scheduler idle before listing after listed ready by = scheduler_ready natives ScheduleStep idle before listing after listed ready by.0

pub so_far_ready : (natives : List (List ℕ)) (actor : Actor) (idle : Bool) (start : Machine) (listing : Listing) (now : Machine) (so_far : Listing)
    → IsMachineReady natives start → SoFar natives actor idle start listing now so_far → IsMachineReady natives now
so_far_ready natives (worker number) idle start listing now so_far ready by = worker_ready natives working.Chain number idle start listing now so_far ready by
so_far_ready natives scheduler idle start listing now so_far ready by = scheduler_ready natives turning.Chain idle start listing now so_far ready by

-- ---- one step

pub advanced_did : (natives : List (List ℕ)) (actor : Actor) (idle : Bool) (before : Machine) (listing : Listing) (after : Machine) (listed : Listing)
    → Advanced natives actor idle before listing after listed → Did natives true (step actor) before listing after listed
advanced_did natives (worker number) idle before listing after listed by =
    steps_did natives before after number listing listed by.0.taken by.0.given by.0.there by.0.moved by.0.started by.0.setting by.0.scheduler_is by.0.workers
advanced_did natives scheduler idle before listing after listed by =
    schedule_stepped natives before after listing listed by.0.turned by.0.started by.0.setting by.0.workers

pub no_step : (natives : List (List ℕ)) (actor : Actor) (machine : Machine) (listing : Listing) → ¬ (HasActor machine actor) → Did natives false (step actor) machine listing machine listing
no_step natives (worker number) machine listing absent =
    let past : ¬ (number < length machine.workers.items) = absent in
    no_step_there natives machine number listing (omega (arith, past))
no_step natives scheduler machine listing absent = absurd (absent tt)

pub no_run : (natives : List (List ℕ)) (actor : Actor) (machine : Machine) (listing : Listing) → ¬ (HasActor machine actor) → Did natives false (run actor) machine listing machine listing
no_run natives (worker number) machine listing absent =
    let past : ¬ (number < length machine.workers.items) = absent in
    no_run_there natives machine number listing (omega (arith, past))
no_run natives scheduler machine listing absent = absurd (absent tt)

-- ---- step after step

pub so_far_begins : (natives : List (List ℕ)) (actor : Actor) (idle : Bool) (start : Machine) (listing : Listing) (now : Machine) (so_far : Listing)
    → Advanced natives actor idle start listing now so_far → SoFar natives actor idle start listing now so_far
so_far_begins natives (worker number) idle start listing now so_far by = record {
  taken = by.0.taken;
  given = by.0.given;
  there = by.0.there;
  moved = working.chain_begins (setting_of natives start.setting) by.0.taken by.0.given start.objects now.objects listing so_far (by.0.moved, by.1);
  is_idle = by.0.is_idle;
  started = by.0.started;
  setting = by.0.setting;
  definer = by.0.definer;
  scheduler_is = by.0.scheduler_is;
  workers = by.0.workers;
}
so_far_begins natives scheduler idle start listing now so_far by = record {
  turned = turning.chain_begins (setting_of natives start.setting) start.scheduler now.scheduler start.objects now.objects listing so_far (by.0.turned, by.1);
  is_idle = by.0.is_idle;
  started = by.0.started;
  setting = by.0.setting;
  definer = by.0.definer;
  workers = by.0.workers;
}

-- a step of a worker that went so far
worker_steps : (natives : List (List ℕ)) (number : ℕ) (idle later : Bool) (start now after : Machine) (listing so_far listed : Listing)
    → (by : ByWorker working.Chain natives number idle start listing now so_far) → (next : Advanced natives (worker number) later now so_far after listed)
    → Stepped (setting_of natives start.setting) by.given now.objects so_far next.0.given after.objects listed
worker_steps natives number idle later start now after listing so_far listed by next =
    let same : next.0.taken ≡ by.given = stands start.workers.items now.workers.items number by.taken by.given next.0.taken by.there by.workers next.0.there in
    subst (λ (w : code_worker.Worker). Stepped (setting_of natives start.setting) w now.objects so_far next.0.given after.objects listed) same
    (subst (λ (s : code_setting.Setting). Stepped (setting_of natives s) next.0.taken now.objects so_far next.0.given after.objects listed) by.setting (next.0.moved, next.1))

-- a step of a scheduler that went so far
scheduler_steps : (natives : List (List ℕ)) (idle later : Bool) (start now after : Machine) (listing so_far listed : Listing)
    → ByScheduler turning.Chain natives idle start listing now so_far → Advanced natives scheduler later now so_far after listed
    → ScheduleStepped (setting_of natives start.setting) now.scheduler now.objects so_far after.scheduler after.objects listed
scheduler_steps natives idle later start now after listing so_far listed by next =
    subst (λ (s : code_setting.Setting). ScheduleStepped (setting_of natives s) now.scheduler now.objects so_far after.scheduler after.objects listed) by.setting (next.0.turned, next.1)

pub so_far_more : (natives : List (List ℕ)) (actor : Actor) (idle later : Bool) (start now after : Machine) (listing so_far listed : Listing) → idle ≡ false
    → SoFar natives actor idle start listing now so_far → Advanced natives actor later now so_far after listed → SoFar natives actor later start listing after listed
so_far_more natives (worker number) idle later start now after listing so_far listed busy by next = record {
  taken = by.taken;
  given = next.0.given;
  there = by.there;
  moved =
      working.chain_more (setting_of natives start.setting) by.taken by.given next.0.given start.objects now.objects after.objects listing so_far listed
      (busy_by idle busy by.is_idle.1) by.moved
      (worker_steps natives number idle later start now after listing so_far listed by next);
  is_idle = next.0.is_idle;
  started = next.0.started ∙ by.started;
  setting = next.0.setting ∙ by.setting;
  definer = next.0.definer ∙ by.definer;
  scheduler_is = next.0.scheduler_is ∙ by.scheduler_is;
  workers =
      next.0.workers ∙ ap (λ (xs : List code_worker.Worker). set xs number next.0.given) by.workers
      ∙ set-set start.workers.items number by.given next.0.given;
}
so_far_more natives scheduler idle later start now after listing so_far listed busy by next = record {
  turned =
      turning.chain_more (setting_of natives start.setting) start.scheduler now.scheduler after.scheduler start.objects now.objects after.objects listing so_far listed
      (busy_by idle busy by.is_idle.1) by.turned
      (scheduler_steps natives idle later start now after listing so_far listed by next);
  is_idle = next.0.is_idle;
  started = next.0.started ∙ by.started;
  setting = next.0.setting ∙ by.setting;
  definer = next.0.definer ∙ by.definer;
  workers = next.0.workers ∙ by.workers;
}

pub so_far_over : (natives : List (List ℕ)) (actor : Actor) (idle : Bool) (start : Machine) (listing : Listing) (now : Machine) (so_far : Listing) → idle ≡ true
    → SoFar natives actor idle start listing now so_far → Did natives true (run actor) start listing now so_far
so_far_over natives (worker number) idle start listing now so_far rests by =
    runs_did natives start now number listing so_far by.taken by.given by.there
    (working.chain_over (setting_of natives start.setting) by.taken by.given start.objects now.objects listing so_far (by.is_idle.0 rests) by.moved)
    by.started by.setting by.scheduler_is by.workers
so_far_over natives scheduler idle start listing now so_far rests by =
    schedule_ran natives start now listing so_far
    (turning.chain_over (setting_of natives start.setting) start.scheduler now.scheduler start.objects now.objects listing so_far (by.is_idle.0 rests) by.turned)
    by.started by.setting by.workers

-- the actor stays
pub so_far_there : (natives : List (List ℕ)) (actor : Actor) (idle : Bool) (start : Machine) (listing : Listing) (now : Machine) (so_far : Listing)
    → SoFar natives actor idle start listing now so_far → HasActor now actor
so_far_there natives (worker number) idle start listing now so_far by =
    let within : number < length start.workers.items = slice_get_within start.workers.items number by.taken by.there in
    let same : length now.workers.items ≡ length start.workers.items = ap (λ (xs : List code_worker.Worker). length xs) by.workers ∙ length-set start.workers.items number by.given in
    omega (arith, within, same)
so_far_there natives scheduler idle start listing now so_far by = tt

-- ---- a number that falls with each step of an actor that isn't idle

abbrev worker_left : Option code_worker.Worker → ℕ
worker_left None = 0
worker_left (Some it) = working.steps_left it

abbrev pub steps_left : Actor → Machine → ℕ
steps_left (worker number) machine = worker_left (slice_get machine.workers.items number)
steps_left scheduler machine = turning.steps_left machine.scheduler

pub steps_fall : (natives : List (List ℕ)) (actor : Actor) (idle later : Bool) (start now after : Machine) (listing so_far listed : Listing) → idle ≡ false
    → SoFar natives actor idle start listing now so_far → Advanced natives actor later now so_far after listed → steps_left actor after < steps_left actor now
steps_fall natives (worker number) idle later start now after listing so_far listed busy by next =
    let falls : working.steps_left next.0.given < working.steps_left by.given =
    working.steps_fall (setting_of natives start.setting) by.given next.0.given now.objects after.objects so_far listed (busy_by idle busy by.is_idle.1)
    (worker_steps natives number idle later start now after listing so_far listed by next) in
    let now_at : slice_get now.workers.items number ≡ Some by.given =
    ap (λ (xs : List code_worker.Worker). slice_get xs number) by.workers ∙ placed start.workers.items number by.taken by.given by.there in
    let after_at : slice_get after.workers.items number ≡ Some next.0.given =
    ap (λ (xs : List code_worker.Worker). slice_get xs number) next.0.workers ∙ placed now.workers.items number next.0.taken next.0.given next.0.there in
    subst (λ (o : Option code_worker.Worker). worker_left o < worker_left (slice_get now.workers.items number)) (sym after_at)
    (subst (λ (o : Option code_worker.Worker). working.steps_left next.0.given < worker_left o) (sym now_at) falls)
steps_fall natives scheduler idle later start now after listing so_far listed busy by next =
    turning.steps_fall (setting_of natives start.setting) now.scheduler after.scheduler now.objects after.objects so_far listed (busy_by idle busy by.is_idle.1)
    (scheduler_steps natives idle later start now after listing so_far listed by next)
