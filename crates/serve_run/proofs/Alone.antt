-- Turns on cells of which one pass alone was ever made.
use Rattle.std.proofs.Common.{◌≡◌, ℕ, zero, suc, List, [], ◌∷◌, ◌++◌, ◌<◌, length, refl, sym, ap, ◌∙◌, subst, arith}
use Rattle.turn_cell.specs.declared.view.Entry.{Entry}
use Rattle.turn_cell.specs.declared.view.View.{View}
use Rattle.turn_cell.specs.Cells.{pass_view}
use Rattle.turn_cell.specs.Chains.{TakesTurns}
use Rattle.turn_cell.specs.History.{after_of, IsHistory}
use Rattle.txt_core.specs.Shares.{WHOLE}
use Rattle.turn_cell.specs.Passes.{fresh, with_turn}
use Rattle.blueprint.specs.States as blueprints
use Rattle.blueprint.specs.Objects as blueprint_steps
use Rattle.nsv_bucket.specs.Steps.{ArraySteps}
use Rattle.sched_core.specs.Allowed as schedule_states
use Rattle.sched_core.specs.Steps.{ScheduleSteps}
use Rattle.shared_state.specs.Cells.{AreOpening}
use Rattle.shared_state.specs.Views.{BlueEntry, empty_schedule}
use Rattle.shared_state.specs.declared.shared.Passes.{Passes}
use Rattle.std.specs.FinMap as map
use Rattle.nsv_shared.specs.Views.{BucketView, opening}
use Rattle.shared_state.specs.Lines.{BucketEntry}
use Rattle.worker.specs.Turns.{Turn, GainsLook, GainsTurns, TakesOnBucket, blueprint_turns, array_turns, schedule_turns}
use Rattle.serve_run.specs.Starting.{AreAlone, IsBucketAlone}

module _ {S C R : Type 0} (allowed : S → Type 0) (reaches : S → S → Type 0) (step : S → C → R → S → Type 0) where
  after_last : (s : S) (es : List (Entry S C R)) (e : Entry S C R) → after_of s (es ++ e ∷ []) ≡ e.after
  after_last s [] e = refl
  after_last s (x ∷ xs) e = after_last x.after xs e

  one_longer : (es : List (Entry S C R)) (e : Entry S C R) → length (es ++ e ∷ []) ≡ suc (length es)
  one_longer [] e = refl
  one_longer (x ∷ xs) e = ap suc (one_longer xs e)

  -- with the whole share, turns in a row go on with the history that the pass has
  history_from : (v w : View S C R) (es : List (Entry S C R)) → v.units ≡ WHOLE → TakesTurns allowed reaches step v es w
      → IsHistory allowed step (length v.own) (after_of v.opening v.own) es
  history_from v w [] whole g = tt
  history_from v w (e ∷ es) whole g =
      let found = g.0.found.whole whole in
      let rest = history_from (with_turn v e) w es whole g.1 in (
        (sym found.2, sym found.1, g.0.legal, g.0.allows.1),
        subst (λ (y : ℕ × S). IsHistory allowed step y.0 y.1 es) (λ i. (one_longer v.own e i, after_last v.opening v.own e i)) rest,
      )

  -- and from the opening on, they are one
  pub history : (s : S) (v w : View S C R) (es : List (Entry S C R)) → v ≡ fresh WHOLE 0 s s → TakesTurns allowed reaches step v es w
      → IsHistory allowed step 0 s es
  history s v w es opens g =
      history_from (fresh WHOLE 0 s s) w es refl (subst (λ (z : View S C R). TakesTurns allowed reaches step z es w) opens g)

  -- a turn, and then more
  pub first_then : (v m w : View S C R) (e : Entry S C R) (es : List (Entry S C R)) → TakesTurns allowed reaches step v (e ∷ []) m
      → TakesTurns allowed reaches step m es w → TakesTurns allowed reaches step v (e ∷ es) w
  first_then v m w e es g h = (g.0, subst (λ (z : View S C R). TakesTurns allowed reaches step z es w) g.1 h)

bucket_alone : (v m w : BucketView) (es : List BucketEntry) → v ≡ opening → m ≡ v → TakesOnBucket m es w → IsBucketAlone es
bucket_alone v m w es opens same g = history (λ s. Unit {0}) (λ s t. Unit {0}) ArraySteps map.empty m w es (same ∙ opens) g

-- what holds for each of eight numbers holds for all below eight
each_of_eight : (P : ℕ → Type 0) → P 0 → P 1 → P 2 → P 3 → P 4 → P 5 → P 6 → P 7 → (n : ℕ) → n < 8 → P n
each_of_eight P a b c d e f g h zero lt = a
each_of_eight P a b c d e f g h (suc zero) lt = b
each_of_eight P a b c d e f g h (suc (suc zero)) lt = c
each_of_eight P a b c d e f g h (suc (suc (suc zero))) lt = d
each_of_eight P a b c d e f g h (suc (suc (suc (suc zero)))) lt = e
each_of_eight P a b c d e f g h (suc (suc (suc (suc (suc zero))))) lt = f
each_of_eight P a b c d e f g h (suc (suc (suc (suc (suc (suc zero)))))) lt = g
each_of_eight P a b c d e f g h (suc (suc (suc (suc (suc (suc (suc zero))))))) lt = h
each_of_eight P a b c d e f g h (suc (suc (suc (suc (suc (suc (suc (suc n)))))))) lt = absurd (omega (arith, lt))

-- a look and then turns, by passes that were the only ones, and knew the opening
pub alone : (names : List (List ℕ)) (p m q : Passes) (look : BlueEntry) (turns : List Turn) → AreOpening names p → GainsLook p look m → GainsTurns m turns q
    → AreAlone names look turns
alone names p m q look turns opens looks gains =
    let l = looks.1 in
    let o = opens.1 in
    record {
      blueprint = history blueprints.Allowed blueprint_steps.Reaches blueprint_steps.BlueprintSteps (blueprints.fresh names) (pass_view p.blueprint) (pass_view q.blueprint)
          (look ∷ blueprint_turns turns) opens.0
          (first_then blueprints.Allowed blueprint_steps.Reaches blueprint_steps.BlueprintSteps (pass_view p.blueprint) (pass_view m.blueprint) (pass_view q.blueprint) look (blueprint_turns turns) l.0 gains.0);
      arrays = each_of_eight (λ (bucket : ℕ). IsBucketAlone (array_turns bucket turns))
          (bucket_alone (pass_view p.nsv.b0) (pass_view m.nsv.b0) (pass_view q.nsv.b0) (array_turns 0 turns) o.0 l.1.0 gains.1.0)
          (bucket_alone (pass_view p.nsv.b1) (pass_view m.nsv.b1) (pass_view q.nsv.b1) (array_turns 1 turns) o.1 l.1.1 gains.1.1)
          (bucket_alone (pass_view p.nsv.b2) (pass_view m.nsv.b2) (pass_view q.nsv.b2) (array_turns 2 turns) o.2 l.1.2 gains.1.2)
          (bucket_alone (pass_view p.nsv.b3) (pass_view m.nsv.b3) (pass_view q.nsv.b3) (array_turns 3 turns) o.3 l.1.3 gains.1.3)
          (bucket_alone (pass_view p.nsv.b4) (pass_view m.nsv.b4) (pass_view q.nsv.b4) (array_turns 4 turns) o.4 l.1.4 gains.1.4)
          (bucket_alone (pass_view p.nsv.b5) (pass_view m.nsv.b5) (pass_view q.nsv.b5) (array_turns 5 turns) o.5 l.1.5 gains.1.5)
          (bucket_alone (pass_view p.nsv.b6) (pass_view m.nsv.b6) (pass_view q.nsv.b6) (array_turns 6 turns) o.6 l.1.6 gains.1.6)
          (bucket_alone (pass_view p.nsv.b7) (pass_view m.nsv.b7) (pass_view q.nsv.b7) (array_turns 7 turns) o.7 l.1.7 gains.1.7);
      schedule = history schedule_states.Allowed (λ s t. Unit {0}) ScheduleSteps empty_schedule (pass_view m.schedule) (pass_view q.schedule) (schedule_turns turns)
          (l.2 ∙ opens.2) gains.2;
    }
