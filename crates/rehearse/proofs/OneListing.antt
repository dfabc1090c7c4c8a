-- Events have one listing.
use Rattle.std.proofs.Common.{◌≡◌, ℕ, List, [], ◌∷◌, ◌++◌, slice_set, Some, refl, sym, subst, ap, ◌∙◌, arith}
use Rattle.std.specs.List.Sorted.{IsStrictlySortedBy}
use Rattle.outside.specs.declared.question.Answer.{Answer}
use Rattle.outside.specs.declared.question.Question.{Question}
use Rattle.tcl_eval.specs.declared.outcome.Outcome.{Outcome}
use Rattle.sched_core.specs.Allowed.{Allowed}
use Rattle.sched_core.specs.Entries.{AreInOrder}
use Rattle.rehearse.specs.declared.objects.Objects.{Objects}
use Rattle.rehearse.specs.Defining.{Defining, Settles, answered, ended, with_reply, define_line}
use Rattle.rehearse.specs.Events.{Actor, worker, scheduler, Event, workers, clock, page, define, connect, step, run}
use Rattle.rehearse.specs.Lines.{Line}
use Rattle.rehearse.specs.Objects.{Setting, Answers, new_objects}
use Rattle.rehearse.specs.Plays.{Defines, Moves, Turns, StepsActor, RunsActor, Does, Plays, Lists, no_event, one_event, Reached}
use Rattle.rehearse.specs.Runs.{asking, over}
use Rattle.rehearse.specs.Schedules.{Agenda, ScheduleStep, ScheduleRuns}
use Rattle.rehearse.specs.Steps.{Position, Step, RunsUntilIdle}
use Rattle.rehearse.specs.World.{World, Worker, opening, as_started, with_objects}
use Rattle.rehearse.proofs.Answering.{answers_one, answers_keep}
use Rattle.rehearse.proofs.WorkerSteps as works
use Rattle.rehearse.proofs.SchedulerSteps as turns

abbrev pub HasAllowed : World → Type 0
HasAllowed world = Allowed world.objects.schedule

abbrev pub SameWorld : List Line → World → List Line → World → Type 0
SameWorld l a m b = (l ≡ m) × (a ≡ b)

-- ---- blocks

same_question : (q r : Question) → asking q ≡ asking r → q ≡ r
same_question q r e = cc

same_outcome : (q r : Outcome) → over q ≡ over r → q ≡ r
same_outcome q r e = cc

pub settles_one : {setting : Setting} {run : Defining} {before a b : Objects} {l m : Line} → Allowed before.schedule
    → Settles setting run before l a → Settles setting run before m b → (l ≡ m) × (a ≡ b)
settles_one {setting = setting} {run = block} {before = before} {b = b} {m = m} ok (answered {between = n} q x at h s) (answered {between = o} r y there k t) =
    let same : r ≡ q = same_question r q (sym there ∙ at) in
    let k' : Answers setting block.moment q before y o = subst (λ (z : Question). Answers setting block.moment z before y o) same k in
    let one : (y ≡ x) × (o ≡ n) = answers_one setting block.moment q before o n y x ok k' h in
    let t' : Settles setting (with_reply block q.service x n) n m b =
    subst (λ (z : Objects). Settles setting (with_reply block q.service x z) z m b) one.1
    (subst (λ (z : Answer). Settles setting (with_reply block q.service z o) o m b) one.0
    (subst (λ (z : Question). Settles setting (with_reply block z.service y o) o m b) same t)) in
    settles_one (answers_keep setting block.moment q before n x ok h) s t'
settles_one ok (answered q x at h s) (ended o there e is) = absurd (let k : asking q ≡ over o = sym at ∙ there in cc)
settles_one ok (ended o at e is) (answered r y there k t) = absurd (let f : asking r ≡ over o = sym there ∙ at in cc)
settles_one {run = block} ok (ended o at e is) (ended p there f is') =
    let same : o ≡ p = same_outcome o p (sym at ∙ there) in
    (is ∙ ap (define_line block.epoch) same ∙ sym is', refl)

pub settles_keep : {setting : Setting} {run : Defining} {before after : Objects} {line : Line} → Allowed before.schedule
    → Settles setting run before line after → Allowed after.schedule
settles_keep {setting = setting} {run = block} {before = before} ok (answered {between = n} q x at h s) =
    settles_keep (answers_keep setting block.moment q before n x ok h) s
settles_keep ok (ended o at e is) = ok

defines_one : (before a b : World) (block : List ℕ) (l m : List Line) → HasAllowed before → Defines before block l a → Defines before block m b → SameWorld l a m b
defines_one before a b block l m ok h k =
    let one : (h.line ≡ k.line) × (h.objects ≡ k.objects) = settles_one ok h.settles k.settles in (
      h.lines_are ∙ ap (λ (x : Line). x ∷ []) one.0 ∙ sym k.lines_are,
      h.after_is ∙ ap (with_objects before) one.1 ∙ sym k.after_is,
    )

-- ---- workers and the scheduler

abbrev Way : Type 1
Way = ℕ → Setting → Position → List Line → Position → Type 0

abbrev IsOne : Way → Type 0
IsOne Goes = (number : ℕ) (setting : Setting) (before a b : Position) (l m : List Line) → Allowed before.objects.schedule
    → Goes number setting before l a → Goes number setting before m b → (l ≡ m) × (a ≡ b)

some_same : (v w : Worker) → Some v ≡ Some w → v ≡ w
some_same v w e = cc

moves_one : (Goes : Way) → IsOne Goes → (before a b : World) (number : ℕ) (l m : List Line) → HasAllowed before
    → Moves Goes before number l a → Moves Goes before number m b → SameWorld l a m b
moves_one Goes unique before a b number l m ok h k =
    let same : h.mover ≡ k.mover = some_same h.mover k.mover (sym h.there ∙ k.there) in
    let there : Goes number before.setting (record { worker = h.mover; objects = before.objects }) m k.place =
    subst (λ (w : Worker). Goes number before.setting (record { worker = w; objects = before.objects }) m k.place) (sym same) k.goes in
    let one : (l ≡ m) × (h.place ≡ k.place) =
    unique number before.setting (record { worker = h.mover; objects = before.objects }) h.place k.place l m ok h.goes there in (
      one.0,
      h.after_is
          ∙ ap (λ (p : Position). let w : World = record before { objects = p.objects; workers = slice_set before.workers number p.worker } in w) one.1 ∙ sym k.after_is,
    )

abbrev Turn : Type 1
Turn = Setting → Agenda → List Line → Agenda → Type 0

turns_one : (Goes : Turn)
    → ((setting : Setting) (before a b : Agenda) (l m : List Line) → Allowed before.objects.schedule → Goes setting before l a → Goes setting before m b → (l ≡ m) × (a ≡ b))
    → (before a b : World) (l m : List Line) → HasAllowed before → Turns Goes before l a → Turns Goes before m b → SameWorld l a m b
turns_one Goes unique before a b l m ok h k =
    let one : (l ≡ m) × (h.agenda ≡ k.agenda) =
    unique before.setting (record { scheduler = before.scheduler; objects = before.objects }) h.agenda k.agenda l m ok h.goes k.goes in (
      one.0,
      h.after_is ∙ ap (λ (p : Agenda). let w : World = record before { scheduler = p.scheduler; objects = p.objects } in w) one.1 ∙ sym k.after_is,
    )

moved : (before after : World) (objects : Objects) → after.objects ≡ objects → Allowed objects.schedule → HasAllowed after
moved before after objects same ok = subst (λ (o : Objects). Allowed o.schedule) (sym same) ok

steps_one : (before a b : World) (actor : Actor) (l m : List Line) → HasAllowed before → StepsActor before actor l a → StepsActor before actor m b → SameWorld l a m b
steps_one before a b (worker number) l m ok h k = moves_one Step works.step_one before a b number l m ok h k
steps_one before a b scheduler l m ok h k = turns_one ScheduleStep turns.step_one before a b l m ok h k

steps_keep : (before after : World) (actor : Actor) (lines : List Line) → HasAllowed before → StepsActor before actor lines after → HasAllowed after
steps_keep before after (worker number) lines ok h =
    moved before after h.place.objects (ap (λ (w : World). w.objects) h.after_is)
    (works.step_keeps number before.setting (record { worker = h.mover; objects = before.objects }) h.place lines ok h.goes)
steps_keep before after scheduler lines ok h =
    moved before after h.agenda.objects (ap (λ (w : World). w.objects) h.after_is)
    (turns.step_keeps before.setting (record { scheduler = before.scheduler; objects = before.objects }) h.agenda lines ok h.goes)

runs_one : (before a b : World) (actor : Actor) (l m : List Line) → HasAllowed before → RunsActor before actor l a → RunsActor before actor m b → SameWorld l a m b
runs_one before a b (worker number) l m ok h k =
    moves_one RunsUntilIdle (λ n setting w x y p q good s t. works.runs_one good s t) before a b number l m ok h k
runs_one before a b scheduler l m ok h k =
    turns_one ScheduleRuns (λ setting w x y p q good s t. turns.runs_one good s t) before a b l m ok h k

runs_keep : (before after : World) (actor : Actor) (lines : List Line) → HasAllowed before → RunsActor before actor lines after → HasAllowed after
runs_keep before after (worker number) lines ok h =
    moved before after h.place.objects (ap (λ (w : World). w.objects) h.after_is) (works.runs_keep ok h.goes)
runs_keep before after scheduler lines ok h =
    moved before after h.agenda.objects (ap (λ (w : World). w.objects) h.after_is) (turns.runs_keep ok h.goes)

-- ---- events

does_one : (before a b : World) (e : Event) (l m : List Line) → HasAllowed before → Does before e l a → Does before e m b → SameWorld l a m b
does_one before a b (workers count) l m ok h k = (h.0 ∙ sym k.0, h.1 ∙ sym k.1)
does_one before a b (clock moment) l m ok h k = (h.0 ∙ sym k.0, h.1 ∙ sym k.1)
does_one before a b (page path text) l m ok h k = (h.0 ∙ sym k.0, h.1 ∙ sym k.1)
does_one before a b (define block) l m ok h k = defines_one before a b block l m ok h k
does_one before a b (connect number input) l m ok h k = (h.0 ∙ sym k.0, h.1 ∙ sym k.1)
does_one before a b (step actor) l m ok h k = steps_one before a b actor l m ok h k
does_one before a b (run actor) l m ok h k = runs_one before a b actor l m ok h k

does_keep : (before after : World) (e : Event) (lines : List Line) → HasAllowed before → Does before e lines after → HasAllowed after
does_keep before after (workers count) lines ok h = moved before after before.objects (ap (λ (w : World). w.objects) h.1) ok
does_keep before after (clock moment) lines ok h = moved before after before.objects (ap (λ (w : World). w.objects) h.1) ok
does_keep before after (page path text) lines ok h = moved before after before.objects (ap (λ (w : World). w.objects) h.1) ok
does_keep before after (define block) lines ok h = moved before after h.objects (ap (λ (w : World). w.objects) h.after_is) (settles_keep ok h.settles)
does_keep before after (connect number input) lines ok h = moved before after before.objects (ap (λ (w : World). w.objects) h.1) ok
does_keep before after (step actor) lines ok h = steps_keep before after actor lines ok h
does_keep before after (run actor) lines ok h = runs_keep before after actor lines ok h

pub plays_one : (before a b : World) (e : Event) (l m : List Line) → HasAllowed before → Plays before e l a → Plays before e m b → SameWorld l a m b
plays_one before a b e l m ok h k =
    let one : (l ≡ m) × (h.done ≡ k.done) = does_one before h.done k.done e l m ok h.does k.does in
    (one.0, h.after_is ∙ ap as_started one.1 ∙ sym k.after_is)

pub plays_keep : (before after : World) (e : Event) (lines : List Line) → HasAllowed before → Plays before e lines after → HasAllowed after
plays_keep before after e lines ok h =
    moved before after h.done.objects (ap (λ (w : World). w.objects) h.after_is) (does_keep before h.done e lines ok h.does)

both_lines : (a b c d : List Line) → a ≡ b → c ≡ d → a ++ c ≡ b ++ d
both_lines a b c d e f = cc

pub lists_one : {before a b : World} {events : List Event} {l m : List Line} → HasAllowed before → Lists before events l a → Lists before events m b → SameWorld l a m b
lists_one ok no_event no_event = (refl, refl)
lists_one {before = before} {b = b} ok (one_event {between = x} {e = e} {events = events} lines others h hs) (one_event {between = y} first rest k ks) =
    let one : SameWorld lines x first y = plays_one before x y e lines first ok h k in
    let next : SameWorld others _ rest b = lists_one (plays_keep before x e lines ok h) hs (subst (λ (w : World). Lists w events rest b) (sym one.1) ks) in
    (both_lines lines first others rest one.0 next.0, next.1)

pub lists_keep : {before after : World} {events : List Event} {lines : List Line} → HasAllowed before → Lists before events lines after → HasAllowed after
lists_keep ok no_event = ok
lists_keep {before = before} ok (one_event {between = x} {e = e} lines others h hs) = lists_keep (plays_keep before x e lines ok h) hs

-- ---- from the opening on

none_in_order : AreInOrder []
unfolding IsStrictlySortedBy
none_in_order = tt

nothing_due : (natives : List (List ℕ)) → Allowed (new_objects natives).schedule
nothing_due natives = record {
  few = omega arith;
  in_order = none_in_order;
  sound = λ e h. absurd (omega (arith, h.1));
  own_ids = λ e f h k same. absurd (omega (arith, h.1));
  given = λ e h. absurd (omega (arith, h.1));
}

pub opens_allowed : (natives : List (List ℕ)) → HasAllowed (opening natives)
opens_allowed natives = nothing_due natives

pub one_listing : (natives : List (List ℕ)) (events : List Event) (l m : List Line) (after other : World)
    → Lists (opening natives) events l after → Lists (opening natives) events m other → SameWorld l after m other
one_listing natives events l m after other h k = lists_one (opens_allowed natives) h k

pub one_outcome : (natives : List (List ℕ)) (world after other : World) (e : Event) (l m : List Line)
    → Reached natives world → Plays world e l after → Plays world e m other → SameWorld l after m other
one_outcome natives world after other e l m reached h k =
    plays_one world after other e l m (lists_keep (opens_allowed natives) reached.lists) h k
