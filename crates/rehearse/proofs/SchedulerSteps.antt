-- A step of the scheduler is one step.
use Rattle.std.proofs.Common.{◌≡◌, List, [], ◌∷◌, ◌++◌, Option, Some, None, refl, sym, subst, ap, ◌∙◌}
use Rattle.outside.specs.declared.question.Answer.{Answer}
use Rattle.sched_core.specs.Allowed.{Allowed}
use Rattle.sched_core.specs.Entries.{State}
use Rattle.sched_core.specs.declared.call.DueScript.{DueScript}
use Rattle.sched_core.specs.declared.call.SchedCall.TheVariants as calls
use Rattle.sched_core.specs.declared.call.SchedReply.{SchedReply}
use Rattle.sched_core.proofs.Determined.{determined}
use Rattle.rehearse.specs.declared.objects.Objects.{Objects}
use Rattle.rehearse.specs.Lines.{Line}
use Rattle.rehearse.specs.Objects.{Setting, Answers}
use Rattle.rehearse.specs.Runs.{Stand, asking, ready, over, script_stand}
use Rattle.rehearse.specs.Schedules.{Agenda, due_scripts, TakesDue, script_line, ScheduleStep, takes, begins, answers, ends, ScheduleRuns, last, more}
use Rattle.rehearse.specs.World.{OpenScript, Scheduler, begun_script, with_script_answer}
use Rattle.rehearse.proofs.Answering.{answers_one, answers_keep}

abbrev pub SameStep : List Line → Agenda → List Line → Agenda → Type 0
SameStep l a m b = (l ≡ m) × (a ≡ b)

abbrev with_running : Agenda → Option OpenScript → Objects → Agenda
with_running before running objects = record { scheduler = record { waiting = before.scheduler.waiting; running = running }; objects = objects }

-- what a step gives where a script is under way, by where that stands
abbrev Gives : Setting → Agenda → OpenScript → Stand → List Line → Agenda → Type 0
Gives setting before script (asking question) lines after =
    (answer : Answer) × (objects : Objects) × Answers setting script.moment question before.objects answer objects × (lines ≡ [])
    × (after ≡ with_running before (Some (with_script_answer script answer)) objects)
Gives setting before script (ready reply) lines after = ⊥
Gives setting before script (over outcome) lines after =
    (lines ≡ script_line script.id script.blueprint.epoch outcome ∷ []) × (after ≡ with_running before None before.objects)

-- what it gives where none is, by the scripts that wait
abbrev Takes : Setting → Agenda → List DueScript → List Line → Agenda → Type 0
Takes setting before [] lines after = TakesDue setting.moment before after × (lines ≡ [])
Takes setting before (due ∷ waiting) lines after =
    (lines ≡ []) × (after ≡ record { scheduler = record { waiting = waiting; running = Some (begun_script setting before.objects due) }; objects = before.objects })

same_script : (r s : OpenScript) → Some r ≡ Some s → r ≡ s
same_script r s e = cc

not_running : (s : Scheduler) (waiting : List DueScript) (r : OpenScript) → s ≡ record { waiting = waiting; running = None } → s.running ≡ Some r → ⊥
not_running s waiting r e f = let k : None ≡ Some r = sym (ap (λ (x : Scheduler). x.running) e) ∙ f in cc

gives_moved : (setting : Setting) (before : Agenda) (r s : OpenScript) (stand : Stand) (lines : List Line) (after : Agenda)
    → r ≡ s → script_stand setting.natives r ≡ stand → Gives setting before r stand lines after
    → Gives setting before s (script_stand setting.natives s) lines after
gives_moved setting before r s stand lines after f is h =
    let at : script_stand setting.natives s ≡ stand = ap (script_stand setting.natives) (sym f) ∙ is in
    subst (λ (x : Stand). Gives setting before s x lines after) (sym at) (subst (λ (x : OpenScript). Gives setting before x stand lines after) f h)

of_running : (setting : Setting) (before after : Agenda) (lines : List Line) (r : OpenScript) → before.scheduler.running ≡ Some r
    → ScheduleStep setting before lines after → Gives setting before r (script_stand setting.natives r) lines after
of_running setting before after lines r is (takes w h x) = absurd (not_running before.scheduler [] r w is)
of_running setting before after lines r is (begins due waiting w x y) = absurd (not_running before.scheduler (due ∷ waiting) r w is)
of_running setting before after lines r is (answers s q o t w at h x y) =
    gives_moved setting before s r (asking q) lines after (same_script s r (sym w ∙ is)) at (o, t, h, x, y)
of_running setting before after lines r is (ends s o w at e x y) =
    gives_moved setting before s r (over o) lines after (same_script s r (sym w ∙ is)) at (x, y)

of_waiting : (setting : Setting) (before after : Agenda) (lines : List Line) → before.scheduler.running ≡ None
    → ScheduleStep setting before lines after → Takes setting before before.scheduler.waiting lines after
of_waiting setting before after lines is (takes w h x) =
    subst (λ (ws : List DueScript). Takes setting before ws lines after) (sym (ap (λ (s : Scheduler). s.waiting) w)) (h, x)
of_waiting setting before after lines is (begins due waiting w x y) =
    subst (λ (ws : List DueScript). Takes setting before ws lines after) (sym (ap (λ (s : Scheduler). s.waiting) w)) (x, y)
of_waiting setting before after lines is (answers s q o t w at h x y) = absurd (let k : None ≡ Some s = sym is ∙ w in cc)
of_waiting setting before after lines is (ends s o w at e x y) = absurd (let k : None ≡ Some s = sym is ∙ w in cc)

gives_same : (setting : Setting) (before a b : Agenda) (r : OpenScript) (stand : Stand) (l m : List Line) → Allowed before.objects.schedule
    → Gives setting before r stand l a → Gives setting before r stand m b → SameStep l a m b
gives_same setting before a b r (asking question) l m ok h k =
    let one : (h.0 ≡ k.0) × (h.1 ≡ k.1) = answers_one setting r.moment question before.objects h.1 k.1 h.0 k.0 ok h.2 k.2 in (
      h.3 ∙ sym k.3,
      h.4 ∙ ap (λ (x : Answer). with_running before (Some (with_script_answer r x)) h.1) one.0
          ∙ ap (λ (o : Objects). with_running before (Some (with_script_answer r k.0)) o) one.1 ∙ sym k.4,
    )
gives_same setting before a b r (ready reply) l m ok h k = absurd h
gives_same setting before a b r (over outcome) l m ok h k = (h.0 ∙ sym k.0, h.1 ∙ sym k.1)

abbrev taken : Agenda → SchedReply → State → Agenda
taken before reply schedule = record {
  scheduler = record { waiting = due_scripts reply; running = None };
  objects = record before.objects { schedule = schedule };
}

takes_same : (setting : Setting) (before a b : Agenda) (waiting : List DueScript) (l m : List Line) → Allowed before.objects.schedule
    → Takes setting before waiting l a → Takes setting before waiting m b → SameStep l a m b
takes_same setting before a b [] l m ok h k =
    let x : TakesDue setting.moment before a = h.0 in
    let y : TakesDue setting.moment before b = k.0 in
    let one : (x.reply ≡ y.reply) × (x.schedule ≡ y.schedule) =
    determined before.objects.schedule x.schedule y.schedule (calls.Due setting.moment) x.reply y.reply ok x.allowed y.allowed x.steps y.steps x.memory y.memory in (
      h.1 ∙ sym k.1,
      x.after_is ∙ ap (λ (r : SchedReply). taken before r x.schedule) one.0 ∙ ap (λ (s : State). taken before y.reply s) one.1 ∙ sym y.after_is,
    )
takes_same setting before a b (due ∷ waiting) l m ok h k = (h.0 ∙ sym k.0, h.1 ∙ sym k.1)

by_running : (running : Option OpenScript) (setting : Setting) (before a b : Agenda) (l m : List Line) → before.scheduler.running ≡ running → Allowed before.objects.schedule
    → ScheduleStep setting before l a → ScheduleStep setting before m b → SameStep l a m b
by_running None setting before a b l m is ok s t =
    takes_same setting before a b before.scheduler.waiting l m ok (of_waiting setting before a l is s) (of_waiting setting before b m is t)
by_running (Some r) setting before a b l m is ok s t =
    gives_same setting before a b r (script_stand setting.natives r) l m ok (of_running setting before a l r is s) (of_running setting before b m r is t)

pub step_one : (setting : Setting) (before a b : Agenda) (l m : List Line) → Allowed before.objects.schedule
    → ScheduleStep setting before l a → ScheduleStep setting before m b → SameStep l a m b
step_one setting before a b l m ok s t = by_running before.scheduler.running setting before a b l m refl ok s t

-- the schedule stays an allowed one
pub step_keeps : (setting : Setting) (before after : Agenda) (lines : List Line) → Allowed before.objects.schedule
    → ScheduleStep setting before lines after → Allowed after.objects.schedule
step_keeps setting before after lines ok (takes w h x) = subst (λ (p : Agenda). Allowed p.objects.schedule) (sym h.after_is) h.allowed
step_keeps setting before after lines ok (begins due waiting w x y) = subst (λ (p : Agenda). Allowed p.objects.schedule) (sym y) ok
step_keeps setting before after lines ok (answers s q o t w at h x y) =
    subst (λ (p : Agenda). Allowed p.objects.schedule) (sym y) (answers_keep setting s.moment q before.objects t o ok h)
step_keeps setting before after lines ok (ends s o w at e x y) = subst (λ (p : Agenda). Allowed p.objects.schedule) (sym y) ok

-- ---- steps until it has no script

both_lines : (a b c d : List Line) → a ≡ b → c ≡ d → a ++ c ≡ b ++ d
both_lines a b c d e f = cc

pub runs_one : {setting : Setting} {before a b : Agenda} {l m : List Line} → Allowed before.objects.schedule
    → ScheduleRuns setting before l a → ScheduleRuns setting before m b → SameStep l a m b
runs_one {setting = setting} {before = before} {a = a} {b = b} {l = l} {m = m} ok (last s i) (last t j) = step_one setting before a b l m ok s t
runs_one {setting = setting} {before = before} {a = a} {l = l} ok (last s i) (more {between = n} lines others t busy r) =
    absurd (busy (ap (λ (p : Agenda). p.scheduler) (sym (step_one setting before a n l lines ok s t).1) ∙ i))
runs_one {setting = setting} {before = before} {b = b} {m = m} ok (more {between = n} lines others s busy r) (last t j) =
    absurd (busy (ap (λ (p : Agenda). p.scheduler) (step_one setting before n b lines m ok s t).1 ∙ j))
runs_one {setting = setting} {before = before} {b = b} ok (more {between = n} lines others s busy r) (more {between = o} first rest t not_idle q) =
    let one : SameStep lines n first o = step_one setting before n o lines first ok s t in
    let next : SameStep others _ rest b = runs_one (step_keeps setting before n lines ok s) r (subst (λ (p : Agenda). ScheduleRuns setting p rest b) (sym one.1) q) in
    (both_lines lines first others rest one.0 next.0, next.1)

pub runs_keep : {setting : Setting} {before after : Agenda} {lines : List Line} → Allowed before.objects.schedule
    → ScheduleRuns setting before lines after → Allowed after.objects.schedule
runs_keep {setting = setting} {before = before} {after = after} {lines = lines} ok (last s i) = step_keeps setting before after lines ok s
runs_keep {setting = setting} {before = before} ok (more {between = n} lines others s busy r) = runs_keep (step_keeps setting before n lines ok s) r
