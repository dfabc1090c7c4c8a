-- Scripts that are due, one after the other.
use Rattle.std.proofs.Common.{◌≡◌, ◌≢◌, ◌⊎◌, inl, inr, ℕ, ◌+◌, ◌<◌, ◌≤◌, List, [], ◌∷◌, ◌++◌, length, get_or, take, Option, None, Some, refl, sym, ap, ◌∙◌, subst, arith}
use Rattle.std.proofs.Math.Seq.{take-length}
use Rattle.std.proofs.lemmas.List.{take_more}
use Rattle.outside.specs.Clocks.{Dial}
use Rattle.outside.specs.Paging.{PageMap}
use Rattle.sched_core.specs.Allowed as schedule_states
use Rattle.sched_core.specs.Steps.{ScheduleSteps}
use Rattle.sched_core.specs.declared.call.DueScript.{DueScript}
use Rattle.sched_core.specs.declared.call.SchedCall.{SchedCall}
use Rattle.sched_core.specs.declared.call.SchedCall.TheVariants as schedule
use Rattle.sched_core.specs.declared.call.SchedReply.{SchedReply}
use Rattle.sched_core.specs.declared.call.SchedReply.TheVariants as scheduled
use Rattle.turn_cell.specs.Cells.{pass_view}
use Rattle.turn_cell.specs.Steps.{Turns}
use Rattle.worker.specs.Outside.{Ticks}
use Rattle.worker.specs.Sessions.{At}
use Rattle.worker.specs.Scripts.{RunsDue, RunsAll, AsksDue, RunsWhatIsDue}
use Rattle.worker.specs.Working.{RunsList}
use Rattle.worker.specs.declared.scripts.DueRun.{DueRun}
use Rattle.worker.specs.declared.scripts.DueRun.TheVariants as runs
use Rattle.worker.specs.declared.scripts.Ran.{Ran}
use Rattle.worker.proofs.Turning.{schedule_entry, schedule_gained}

module _ (names : List (List ℕ)) (held : Option PageMap) where
  runs_more : (list : List DueScript) (due : DueScript) (a m b : At) (xs : List Ran) (x : Ran) → RunsAll names held list a xs m → RunsDue names held due m x b → RunsAll names held (list ++ due ∷ []) a (xs ++ x ∷ []) b
  runs_more [] due a m b [] x r d = (b, subst (λ (z : At). RunsDue names held due z x b) r d, refl)
  runs_more [] due a m b (y ∷ ys) x r d = absurd r
  runs_more (e ∷ list) due a m b [] x r d = absurd r
  runs_more (e ∷ list) due a m b (y ∷ ys) x r d = (r.0, r.1, runs_more list due r.0 m b ys x r.2 d)

  -- one script more of a list
  pub runs_next : (list : List DueScript) (i : ℕ) (due : DueScript) (a m b : At) (xs now : List Ran) (x : Ran) → i < length list → due ≡ get_or list i due → now ≡ xs ++ x ∷ []
      → RunsAll names held (take i list) a xs m → RunsDue names held due m x b → RunsAll names held (take (i + 1) list) a now b
  runs_next list i due a m b xs now x lt is more r d =
      subst (λ (l : List DueScript). RunsAll names held l a now b) (sym (take_more list i due lt ∙ ap (λ (e : DueScript). take i list ++ e ∷ []) (sym is)))
      (subst (λ (l : List Ran). RunsAll names held (take i list ++ due ∷ []) a l b) (sym more) (runs_more (take i list) due a m b xs x r d))

  pub runs_each : (list : List DueScript) (i : ℕ) (a b : At) (xs : List Ran) → i ≡ length list → RunsAll names held (take i list) a xs b → RunsAll names held list a xs b
  runs_each list i a b xs is r = subst (λ (l : List DueScript). RunsAll names held l a xs b) (ap (λ (n : ℕ). take n list) is ∙ take-length list) r

  -- memory wanted before the first
  pub lost_list : (list : List DueScript) (a b : At) → list ≢ [] → b ≡ a → RunsList names held list a runs.NoMemory b
  lost_list [] a b some is = some refl
  lost_list (due ∷ list) a b some is = is

-- the turn that asks what is due
pub asks_due : (names : List (List ℕ)) (held : Option PageMap) (a b : At) (place moment : ℕ) (reply : SchedReply)
    → (t : Turns schedule_states.Allowed (λ s t. Unit {0}) ScheduleSteps (pass_view a.passes.schedule) place (schedule.Due moment) reply (pass_view b.passes.schedule))
    → b.passes.blueprint ≡ a.passes.blueprint → b.passes.nsv ≡ a.passes.nsv → Ticks a.clock moment b.clock
    → b.standing ≡ a.standing → b.faults ≡ a.faults → b.steps ≡ a.steps → AsksDue names held a reply b
asks_due names held a b place moment reply t blueprint arrays ticks standing faults steps = record {
  moment = moment;
  entry = schedule_entry a.passes b.passes place (schedule.Due moment) reply t;
  ticks = ticks;
  call = refl;
  reply_is = refl;
  gains = schedule_gained a.passes b.passes place (schedule.Due moment) reply t blueprint arrays;
  same = (standing, faults, steps);
}

-- what was listed by it, and what came of that
pub runs_listed : (names : List (List ℕ)) (held : Option PageMap) (list : List DueScript) (a m b : At) (ran : DueRun) → AsksDue names held a (scheduled.Due list) m → RunsList names held list m ran b → RunsWhatIsDue names held a ran b
runs_listed names held list a m b (runs.Ran ran) asks r = (list, m, asks, r)
runs_listed names held list a m b runs.Stopped asks r = absurd r
runs_listed names held [] a m b runs.NoMemory asks r = absurd r
runs_listed names held (due ∷ list) a m b runs.NoMemory asks r = inr (due, list, subst (λ (z : At). AsksDue names held a (scheduled.Due (due ∷ list)) z) (sym r) asks)
