-- Runs that have ended, and definition runs that stand for themselves.
use Rattle.std.proofs.Common.{◌≡◌, ℕ, ◌<◌, List, ◌∷◌, refl, sym, subst, ap, ◌∙◌, None}
use Rattle.outside.specs.declared.question.Answer.{Answer}
use Rattle.outside.specs.declared.question.Question.{Question}
use Rattle.tcl_eval.specs.Engine.{Lasts}
use Rattle.tcl_eval.specs.declared.outcome.Outcome.{Outcome}
use Rattle.ictl.specs.Settle.{Defined}
use Rattle.ictl.specs.Standing.{define_gives, define_at}
use Rattle.ictl.specs.Main.{ends, defined_end}
use Rattle.ictl.specs.Steps.{defined_gives}
use Rattle.ictl.specs.Interps.{interp_state, gives, asking_gives, Holds, IsSameRun}
use Rattle.ictl.specs.Falls.{IsEnd, GoesOut, Falls, DefineFalls, define_number, number_of, task_number}
use Rattle.ictl.specs.declared.running.Running.{Running}
use Rattle.ictl.specs.declared.defining.DefineRun.{DefineRun}
use Rattle.ictl.specs.declared.defining.DefineStop.{DefineStop}
use Rattle.ictl.specs.declared.next.Next.{Next}
use Rattle.ictl.specs.declared.next.Next.TheVariants.{Asks, Ended}
use Rattle.ictl.specs.declared.task.Task.{Task}
use Rattle.ictl.specs.declared.task.Task.TheVariants.{Define, Over}
use Rattle.ictl.specs.declared.interp.Interp.{Interp}

-- ---- a run that has ended

pub over_gives : (names : List (List ℕ)) (next : Next) (outcome : Outcome) (old new : Interp) (inside : ℕ) (further : List Answer) → next ≡ Ended outcome → new ≡ record old { task = Over }
    → gives names next inside new further ≡ ends outcome (interp_state old) inside further
over_gives names next outcome old new inside further is now =
    ap (λ (n : Next). gives names n inside new further) is ∙ ap (λ (i : Interp). ends outcome (interp_state i) inside further) now

pub over_stands : (next : Next) (outcome : Outcome) (old new : Interp) → next ≡ Ended outcome → new ≡ record old { task = Over } → old.settling.inner ≡ None → IsEnd outcome → GoesOut next new
over_stands next outcome old new is now none end = subst (λ (n : Next). GoesOut n new) (sym is) (end, ap (λ (i : Interp). i.task) now, ap (λ (i : Interp). i.settling.inner) now ∙ none)

pub over_falls : (next : Next) (outcome : Outcome) (new : Interp) (before : ℕ) → next ≡ Ended outcome → Falls next new before
over_falls next outcome new before is = subst (λ (n : Next). Falls n new before) (sym is) tt

-- ---- where the task alone is set behind a run

-- an interpreter in which beside the task the run alone is another
abbrev pub with_run : Interp → Running → Task → Interp
with_run old run task = record old { settling = record old.settling { run = run }; task = task }

pub run_same : (new old : Interp) (run : Running) (task : Task) → new ≡ with_run old run task → IsSameRun new old
run_same new old run task is = subst (λ (i : Interp). IsSameRun i old) (sym is) (record { visit = refl; moment = refl; spare = refl })

pub run_holds : (new old : Interp) (run : Running) (task : Task) → new ≡ with_run old run task → Lasts run.engine old.settling.run.engine → Holds new old
run_holds new old run task is lasts = subst (λ (i : Interp). Holds i old) (sym is) (record { engine = lasts; blueprint = refl; mark = refl; routes = refl; cleanups = refl; authorises = refl })

-- ---- a definition run

-- what comes of an answer to its question
pub define_answered : (names : List (List ℕ)) (question : Question) (next : Next) (stop : DefineStop) (was now : DefineRun) (run : Running) (task : Task) (old new : Interp) (inside : ℕ) (answer : Answer) (further : List Answer)
    → old.task ≡ Define was
    → gives names next inside new further ≡ defined_gives names stop now inside (with_run old run task) further
    → define_gives names old.blueprint.value old.moment stop run now further ≡ define_at names old.blueprint.value old.moment question old.settling.run was was.value (answer ∷ further)
    → gives names next inside new further ≡ gives names (Asks question) inside old (answer ∷ further)
define_answered names question next stop was now run task old new inside answer further at came goes =
    came
    ∙ ap (λ (x : Defined). defined_end inside x) goes
    ∙ sym (ap (λ (t : Task). asking_gives names question t inside old (answer ∷ further)) at)

-- it asks less behind it
pub define_less : (next : Next) (stop : DefineStop) (was now : DefineRun) (old new : Interp)
    → old.task ≡ Define was → DefineFalls stop now (define_number was.questions was.value) → ((before : ℕ) → DefineFalls stop now before → Falls next new before) → Falls next new (number_of old)
define_less next stop was now old new at fell falls = subst (λ (t : Task). Falls next new (task_number t old.settling)) (sym at) (falls (define_number was.questions was.value) fell)
