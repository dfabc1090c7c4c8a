-- What the passes gain by turns.
use Rattle.std.proofs.Common.{◌≡◌, ◌≢◌, ◌⊎◌, inl, inr, ⊎_elim, ℕ, zero, suc, ◌+◌, ◌<◌, ◌≤◌, Bool, true, false, cond, eqb, List, [], ◌∷◌, ◌++◌, Option, None, Some, refl, sym, ap, ◌∙◌, subst, append_assoc, arith}
use Rattle.std.proofs.lemmas.List.{append-nil}
use Rattle.std.proofs.lemmas.Bool.{eqb-true, eqb-false}
use Rattle.outside.specs.Paging.{PageMap}
use Rattle.turn_cell.specs.declared.view.Entry.{Entry}
use Rattle.turn_cell.specs.declared.view.View.{View}
use Rattle.txt_core.specs.Members.{Has}
use Rattle.turn_cell.specs.Members.{Left}
use Rattle.turn_cell.specs.Cells.{pass_view}
use Rattle.turn_cell.specs.Passes.{turn_of, with_turn}
use Rattle.turn_cell.specs.Steps.{Turns}
use Rattle.turn_cell.specs.Chains.{TakesTurns}
use Rattle.turn_cell.proofs.Chains.{one_turn, in_a_row, own_after}
use Rattle.turn_cell.proofs.Members.{left_front, left_back}
use Rattle.blueprint.specs.States as blueprints
use Rattle.blueprint.specs.Objects as blueprint_steps
use Rattle.blueprint.specs.Order.{step_reaches}
use Rattle.blueprint.specs.declared.reply.BlueCall.{BlueCall}
use Rattle.blueprint.specs.declared.reply.BlueReply.{BlueReply}
use Rattle.sched_core.specs.Allowed as schedule_states
use Rattle.sched_core.specs.Steps.{ScheduleSteps}
use Rattle.sched_core.specs.declared.call.SchedCall.{SchedCall}
use Rattle.sched_core.specs.declared.call.SchedReply.{SchedReply}
use Rattle.nsv_bucket.specs.Arrays.{Arrays}
use Rattle.nsv_bucket.specs.Steps.{ArraySteps}
use Rattle.nsv_bucket.specs.declared.reply.NsvReply.{NsvReply}
use Rattle.nsv_shared.specs.Views.{BucketView, TurnsAt}
use Rattle.nsv_shared.specs.Cells as arrays
use Rattle.nsv_shared.specs.declared.nsv.NsvPass.{NsvPass}
use Rattle.shared_state.specs.declared.shared.Passes.{Passes}
use Rattle.shared_state.specs.Views.{BlueEntry, BlueView, ScheduleEntry, ScheduleView}
use Rattle.shared_state.specs.Lines.{BucketEntry}
use Rattle.shared_state.specs.Cells.{KnowNames, KeepUnits, HaveSameNames}
use Rattle.worker.specs.Turns.{Turn, OnBlueprint, OnArrays, OnSchedule, OnPages, AtOnce, on_blueprint, on_arrays, on_schedule, blueprint_turns, array_turns, schedule_turns, TakesOnBlueprint, TakesOnBucket, TakesOnSchedule, TakesOnArrays, GainsTurns}

-- ---- two lists of turns in a row

blueprint_more : (ts us : List Turn) → blueprint_turns (ts ++ us) ≡ blueprint_turns ts ++ blueprint_turns us
blueprint_more [] us = refl
blueprint_more (t ∷ ts) us = ap (λ (l : List BlueEntry). on_blueprint t ++ l) (blueprint_more ts us) ∙ sym (append_assoc (on_blueprint t) (blueprint_turns ts) (blueprint_turns us))

arrays_more : (here : ℕ) (ts us : List Turn) → array_turns here (ts ++ us) ≡ array_turns here ts ++ array_turns here us
arrays_more here [] us = refl
arrays_more here (t ∷ ts) us = ap (λ (l : List BucketEntry). on_arrays here t ++ l) (arrays_more here ts us) ∙ sym (append_assoc (on_arrays here t) (array_turns here ts) (array_turns here us))

schedule_more : (ts us : List Turn) → schedule_turns (ts ++ us) ≡ schedule_turns ts ++ schedule_turns us
schedule_more [] us = refl
schedule_more (t ∷ ts) us = ap (λ (l : List ScheduleEntry). on_schedule t ++ l) (schedule_more ts us) ∙ sym (append_assoc (on_schedule t) (schedule_turns ts) (schedule_turns us))

blueprint_row : (u v w : BlueView) (ts us : List Turn) → TakesOnBlueprint u (blueprint_turns ts) v → TakesOnBlueprint v (blueprint_turns us) w → TakesOnBlueprint u (blueprint_turns (ts ++ us)) w
blueprint_row u v w ts us g h =
    subst (λ (l : List BlueEntry). TakesOnBlueprint u l w) (sym (blueprint_more ts us))
    (in_a_row blueprints.Allowed blueprint_steps.Reaches blueprint_steps.BlueprintSteps u v w (blueprint_turns ts) (blueprint_turns us) g h)

bucket_row : (here : ℕ) (u v w : BucketView) (ts us : List Turn) → TakesOnBucket u (array_turns here ts) v → TakesOnBucket v (array_turns here us) w → TakesOnBucket u (array_turns here (ts ++ us)) w
bucket_row here u v w ts us g h =
    subst (λ (l : List BucketEntry). TakesOnBucket u l w) (sym (arrays_more here ts us))
    (in_a_row (λ s. Unit {0}) (λ s t. Unit {0}) ArraySteps u v w (array_turns here ts) (array_turns here us) g h)

schedule_row : (u v w : ScheduleView) (ts us : List Turn) → TakesOnSchedule u (schedule_turns ts) v → TakesOnSchedule v (schedule_turns us) w → TakesOnSchedule u (schedule_turns (ts ++ us)) w
schedule_row u v w ts us g h =
    subst (λ (l : List ScheduleEntry). TakesOnSchedule u l w) (sym (schedule_more ts us))
    (in_a_row schedule_states.Allowed (λ s t. Unit {0}) ScheduleSteps u v w (schedule_turns ts) (schedule_turns us) g h)

-- no turn
pub gains_none : (p : Passes) → GainsTurns p [] p
gains_none p = (refl, (refl, refl, refl, refl, refl, refl, refl, refl), refl)

-- turns, and then more turns
pub gains_more : (p q r : Passes) (ts us : List Turn) → GainsTurns p ts q → GainsTurns q us r → GainsTurns p (ts ++ us) r
gains_more p q r ts us g h = (
  blueprint_row (pass_view p.blueprint) (pass_view q.blueprint) (pass_view r.blueprint) ts us g.0 h.0,
  (
    bucket_row 0 (pass_view p.nsv.b0) (pass_view q.nsv.b0) (pass_view r.nsv.b0) ts us g.1.0 h.1.0,
    bucket_row 1 (pass_view p.nsv.b1) (pass_view q.nsv.b1) (pass_view r.nsv.b1) ts us g.1.1 h.1.1,
    bucket_row 2 (pass_view p.nsv.b2) (pass_view q.nsv.b2) (pass_view r.nsv.b2) ts us g.1.2 h.1.2,
    bucket_row 3 (pass_view p.nsv.b3) (pass_view q.nsv.b3) (pass_view r.nsv.b3) ts us g.1.3 h.1.3,
    bucket_row 4 (pass_view p.nsv.b4) (pass_view q.nsv.b4) (pass_view r.nsv.b4) ts us g.1.4 h.1.4,
    bucket_row 5 (pass_view p.nsv.b5) (pass_view q.nsv.b5) (pass_view r.nsv.b5) ts us g.1.5 h.1.5,
    bucket_row 6 (pass_view p.nsv.b6) (pass_view q.nsv.b6) (pass_view r.nsv.b6) ts us g.1.6 h.1.6,
    bucket_row 7 (pass_view p.nsv.b7) (pass_view q.nsv.b7) (pass_view r.nsv.b7) ts us g.1.7 h.1.7,
  ),
  schedule_row (pass_view p.schedule) (pass_view q.schedule) (pass_view r.schedule) ts us g.2 h.2,
)

-- ---- one turn

-- what stays behind turns on another cell
arrays_stay : (p q : NsvPass) → q ≡ p → TakesOnArrays p [] q
arrays_stay p q is =
    let b = λ (f : NsvPass → BucketView). ap f is in
    (b (λ n. pass_view n.b0), b (λ n. pass_view n.b1), b (λ n. pass_view n.b2), b (λ n. pass_view n.b3), b (λ n. pass_view n.b4), b (λ n. pass_view n.b5), b (λ n. pass_view n.b6), b (λ n. pass_view n.b7))

-- the entry of a turn on the blueprint
abbrev pub blueprint_entry : (p q : Passes) (place : ℕ) (call : BlueCall) (reply : BlueReply) → Turns blueprints.Allowed blueprint_steps.Reaches blueprint_steps.BlueprintSteps (pass_view p.blueprint) place call reply (pass_view q.blueprint) → BlueEntry
blueprint_entry p q place call reply t = turn_of place t.before call reply t.after

pub blueprint_gained : (p q : Passes) (place : ℕ) (call : BlueCall) (reply : BlueReply) → (t : Turns blueprints.Allowed blueprint_steps.Reaches blueprint_steps.BlueprintSteps (pass_view p.blueprint) place call reply (pass_view q.blueprint))
    → q.nsv ≡ p.nsv → q.schedule ≡ p.schedule → GainsTurns p (OnBlueprint (blueprint_entry p q place call reply t) ∷ []) q
blueprint_gained p q place call reply t arrays schedule = (
  one_turn blueprints.Allowed blueprint_steps.Reaches blueprint_steps.BlueprintSteps (pass_view p.blueprint) (pass_view q.blueprint) place call reply t,
  arrays_stay p.nsv q.nsv arrays,
  ap (λ s. pass_view s) schedule,
)

abbrev pub schedule_entry : (p q : Passes) (place : ℕ) (call : SchedCall) (reply : SchedReply) → Turns schedule_states.Allowed (λ s t. Unit {0}) ScheduleSteps (pass_view p.schedule) place call reply (pass_view q.schedule) → ScheduleEntry
schedule_entry p q place call reply t = turn_of place t.before call reply t.after

pub schedule_gained : (p q : Passes) (place : ℕ) (call : SchedCall) (reply : SchedReply) → (t : Turns schedule_states.Allowed (λ s t. Unit {0}) ScheduleSteps (pass_view p.schedule) place call reply (pass_view q.schedule))
    → q.blueprint ≡ p.blueprint → q.nsv ≡ p.nsv → GainsTurns p (OnSchedule (schedule_entry p q place call reply t) ∷ []) q
schedule_gained p q place call reply t blueprint arrays = (
  ap (λ b. pass_view b) blueprint,
  arrays_stay p.nsv q.nsv arrays,
  one_turn schedule_states.Allowed (λ s t. Unit {0}) ScheduleSteps (pass_view p.schedule) (pass_view q.schedule) place call reply t,
)

-- ---- one turn on a bucket

-- what the pass knows of the bucket with this number
abbrev bucket_at : NsvPass → ℕ → BucketView
bucket_at p zero = pass_view p.b0
bucket_at p (suc zero) = pass_view p.b1
bucket_at p (suc (suc zero)) = pass_view p.b2
bucket_at p (suc (suc (suc zero))) = pass_view p.b3
bucket_at p (suc (suc (suc (suc zero)))) = pass_view p.b4
bucket_at p (suc (suc (suc (suc (suc zero))))) = pass_view p.b5
bucket_at p (suc (suc (suc (suc (suc (suc zero)))))) = pass_view p.b6
bucket_at p (suc (suc (suc (suc (suc (suc (suc here))))))) = pass_view p.b7

asked_at : (asked place : ℕ) (words : List (List ℕ)) (reply : NsvReply) (p q : NsvPass) → arrays.Asks asked place words reply p q → (here : ℕ) → here < 8 → TurnsAt asked here place words reply (bucket_at p here) (bucket_at q here)
asked_at asked place words reply p q x zero lt = x.0
asked_at asked place words reply p q x (suc zero) lt = x.1
asked_at asked place words reply p q x (suc (suc zero)) lt = x.2
asked_at asked place words reply p q x (suc (suc (suc zero))) lt = x.3
asked_at asked place words reply p q x (suc (suc (suc (suc zero)))) lt = x.4
asked_at asked place words reply p q x (suc (suc (suc (suc (suc zero))))) lt = x.5
asked_at asked place words reply p q x (suc (suc (suc (suc (suc (suc zero)))))) lt = x.6
asked_at asked place words reply p q x (suc (suc (suc (suc (suc (suc (suc zero))))))) lt = x.7
asked_at asked place words reply p q x (suc (suc (suc (suc (suc (suc (suc (suc here)))))))) lt = absurd (omega (arith, lt))

here_or_not : (asked here : ℕ) (e : BucketEntry) (v w : BucketView) (b : Bool) → eqb asked here ≡ b → (asked ≡ here → TakesOnBucket v (e ∷ []) w) → (asked ≢ here → w ≡ v) → TakesOnBucket v (cond b (e ∷ []) [] ++ []) w
here_or_not asked here e v w true is took stayed = took (eqb-true asked here is)
here_or_not asked here e v w false is took stayed = stayed (eqb-false asked here is)

one_bucket : (asked here place : ℕ) (words : List (List ℕ)) (reply : NsvReply) (e : BucketEntry) (v w : BucketView) → TurnsAt asked here place words reply v w → (asked ≡ here → TakesOnBucket v (e ∷ []) w) → TakesOnBucket v (array_turns here (OnArrays asked e ∷ [])) w
one_bucket asked here place words reply e v w t took = here_or_not asked here e v w (eqb asked here) refl took t.1

-- the entry of a turn on the bucket that is asked
pub arrays_gained : (p q : Passes) (asked place : ℕ) (words : List (List ℕ)) (reply : NsvReply) → arrays.Asks asked place words reply p.nsv q.nsv → asked < 8
    → q.blueprint ≡ p.blueprint → q.schedule ≡ p.schedule
    → (e : BucketEntry) × (e.call ≡ words) × (e.reply ≡ reply) × GainsTurns p (OnArrays asked e ∷ []) q
arrays_gained p q asked place words reply x lt blueprint schedule =
    let t : Turns (λ s. Unit {0}) (λ s t. Unit {0}) ArraySteps (bucket_at p.nsv asked) place words reply (bucket_at q.nsv asked) = (asked_at asked place words reply p.nsv q.nsv x asked lt).0 refl in
    let e : BucketEntry = turn_of place t.before words reply t.after in
    let here : TakesOnBucket (bucket_at p.nsv asked) (e ∷ []) (bucket_at q.nsv asked) = one_turn (λ s. Unit {0}) (λ s t. Unit {0}) ArraySteps (bucket_at p.nsv asked) (bucket_at q.nsv asked) place words reply t in
    let took = λ (k : ℕ) (is : asked ≡ k). subst (λ (k : ℕ). TakesOnBucket (bucket_at p.nsv k) (e ∷ []) (bucket_at q.nsv k)) is here in (
      e,
      refl,
      refl,
      (
        ap (λ b. pass_view b) blueprint,
        (
          one_bucket asked 0 place words reply e (pass_view p.nsv.b0) (pass_view q.nsv.b0) x.0 (took 0),
          one_bucket asked 1 place words reply e (pass_view p.nsv.b1) (pass_view q.nsv.b1) x.1 (took 1),
          one_bucket asked 2 place words reply e (pass_view p.nsv.b2) (pass_view q.nsv.b2) x.2 (took 2),
          one_bucket asked 3 place words reply e (pass_view p.nsv.b3) (pass_view q.nsv.b3) x.3 (took 3),
          one_bucket asked 4 place words reply e (pass_view p.nsv.b4) (pass_view q.nsv.b4) x.4 (took 4),
          one_bucket asked 5 place words reply e (pass_view p.nsv.b5) (pass_view q.nsv.b5) x.5 (took 5),
          one_bucket asked 6 place words reply e (pass_view p.nsv.b6) (pass_view q.nsv.b6) x.6 (took 6),
          one_bucket asked 7 place words reply e (pass_view p.nsv.b7) (pass_view q.nsv.b7) x.7 (took 7),
        ),
        ap (λ s. pass_view s) schedule,
      ),
    )

-- a path that was looked up, and a refusal at once, are no turn on a cell
pub page_gained : (p : Passes) (turn : Turn) → blueprint_turns (turn ∷ []) ≡ [] → ((here : ℕ) → array_turns here (turn ∷ []) ≡ []) → schedule_turns (turn ∷ []) ≡ [] → GainsTurns p (turn ∷ []) p
page_gained p turn none no_arrays no_schedule = (
  subst (λ (l : List BlueEntry). TakesOnBlueprint (pass_view p.blueprint) l (pass_view p.blueprint)) (sym none) refl,
  (
    subst (λ (l : List BucketEntry). TakesOnBucket (pass_view p.nsv.b0) l (pass_view p.nsv.b0)) (sym (no_arrays 0)) refl,
    subst (λ (l : List BucketEntry). TakesOnBucket (pass_view p.nsv.b1) l (pass_view p.nsv.b1)) (sym (no_arrays 1)) refl,
    subst (λ (l : List BucketEntry). TakesOnBucket (pass_view p.nsv.b2) l (pass_view p.nsv.b2)) (sym (no_arrays 2)) refl,
    subst (λ (l : List BucketEntry). TakesOnBucket (pass_view p.nsv.b3) l (pass_view p.nsv.b3)) (sym (no_arrays 3)) refl,
    subst (λ (l : List BucketEntry). TakesOnBucket (pass_view p.nsv.b4) l (pass_view p.nsv.b4)) (sym (no_arrays 4)) refl,
    subst (λ (l : List BucketEntry). TakesOnBucket (pass_view p.nsv.b5) l (pass_view p.nsv.b5)) (sym (no_arrays 5)) refl,
    subst (λ (l : List BucketEntry). TakesOnBucket (pass_view p.nsv.b6) l (pass_view p.nsv.b6)) (sym (no_arrays 6)) refl,
    subst (λ (l : List BucketEntry). TakesOnBucket (pass_view p.nsv.b7) l (pass_view p.nsv.b7)) (sym (no_arrays 7)) refl,
  ),
  subst (λ (l : List ScheduleEntry). TakesOnSchedule (pass_view p.schedule) l (pass_view p.schedule)) (sym no_schedule) refl,
)

-- ---- what turns leave

module _ {S C R : Type 0} (allowed : S → Type 0) (reaches : S → S → Type 0) (step : S → C → R → S → Type 0) where
  units_kept : (v w : View S C R) (es : List (Entry S C R)) → TakesTurns allowed reaches step v es w → w.units ≡ v.units
  units_kept v w [] g = ap (λ (z : View S C R). z.units) g
  units_kept v w (e ∷ es) g = units_kept (with_turn v e) w es g.1

bucket_units : (here : ℕ) (v w : BucketView) (ts : List Turn) → TakesOnBucket v (array_turns here ts) w → w.units ≡ v.units
bucket_units here v w ts g = units_kept (λ s. Unit {0}) (λ s t. Unit {0}) ArraySteps v w (array_turns here ts) g

-- each pass keeps its share
pub keeps_units : (p q : Passes) (ts : List Turn) → GainsTurns p ts q → KeepUnits p q
keeps_units p q ts g = (
  units_kept blueprints.Allowed blueprint_steps.Reaches blueprint_steps.BlueprintSteps (pass_view p.blueprint) (pass_view q.blueprint) (blueprint_turns ts) g.0,
  (
    bucket_units 0 (pass_view p.nsv.b0) (pass_view q.nsv.b0) ts g.1.0,
    bucket_units 1 (pass_view p.nsv.b1) (pass_view q.nsv.b1) ts g.1.1,
    bucket_units 2 (pass_view p.nsv.b2) (pass_view q.nsv.b2) ts g.1.2,
    bucket_units 3 (pass_view p.nsv.b3) (pass_view q.nsv.b3) ts g.1.3,
    bucket_units 4 (pass_view p.nsv.b4) (pass_view q.nsv.b4) ts g.1.4,
    bucket_units 5 (pass_view p.nsv.b5) (pass_view q.nsv.b5) ts g.1.5,
    bucket_units 6 (pass_view p.nsv.b6) (pass_view q.nsv.b6) ts g.1.6,
    bucket_units 7 (pass_view p.nsv.b7) (pass_view q.nsv.b7) ts g.1.7,
  ),
  units_kept schedule_states.Allowed (λ s t. Unit {0}) ScheduleSteps (pass_view p.schedule) (pass_view q.schedule) (schedule_turns ts) g.2,
)

-- a blueprint keeps the names of its natives
pub reached_names : (s t : blueprints.State) → blueprint_steps.Reaches s t → s.natives ≡ t.natives
reached_names s t (inl same) = ap (λ (z : blueprints.State). z.natives) same
reached_names s t (inr h) = h.0

names_kept : (v w : BlueView) (es : List BlueEntry) → TakesOnBlueprint v es w → v.low.natives ≡ w.low.natives
names_kept v w [] g = sym (ap (λ (z : BlueView). z.low.natives) g)
names_kept v w (e ∷ es) g =
    reached_names v.low e.before g.0.found.low
    ∙ (reached_names e.before e.after (step_reaches e.before e.call e.reply e.after g.0.allows.0 g.0.legal)
    ∙ names_kept (with_turn v e) w es g.1)

pub keeps_names : (names : List (List ℕ)) (p q : Passes) (ts : List Turn) → GainsTurns p ts q → KnowNames names p → KnowNames names q
keeps_names names p q ts g know =
    subst (λ (others : List (List ℕ)). HaveSameNames names others) (names_kept (pass_view p.blueprint) (pass_view q.blueprint) (blueprint_turns ts) g.0) know

-- the pass still has what its turns left
pub keeps_left : (p q : Passes) (ts : List Turn) (s : blueprints.State) → GainsTurns p ts q → Left (pass_view p.blueprint).own s → Left (pass_view q.blueprint).own s
keeps_left p q ts s g l =
    subst (λ (own : List BlueEntry). Left own s)
    (sym (own_after blueprints.Allowed blueprint_steps.Reaches blueprint_steps.BlueprintSteps (pass_view p.blueprint) (pass_view q.blueprint) (blueprint_turns ts) g.0))
    (left_front (pass_view p.blueprint).own (blueprint_turns ts) s l)

-- the share is kept over two stretches
pub units_on : (p q r : Passes) → KeepUnits p q → KeepUnits q r → KeepUnits p r
units_on p q r g h = (
  h.0 ∙ g.0,
  (h.1.0 ∙ g.1.0, h.1.1 ∙ g.1.1, h.1.2 ∙ g.1.2, h.1.3 ∙ g.1.3, h.1.4 ∙ g.1.4, h.1.5 ∙ g.1.5, h.1.6 ∙ g.1.6, h.1.7 ∙ g.1.7),
  h.2 ∙ g.2,
)
