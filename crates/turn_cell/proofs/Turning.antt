-- A turn is a pop that takes, a step, and a push.
use Rattle.std.proofs.Common.{◌≡◌, ℕ, ◌<◌, None, sym, ap, ◌∙◌, subst}
use Rattle.turn_cell.specs.declared.view.View.{View}
use Rattle.turn_cell.specs.Passes.{holding, turn_of, with_turn}
use Rattle.turn_cell.specs.Steps.{Finds, Turns}

module _ {S C R : Type 0} where
  pub still_shares : (v w : View S C R) (count : ℕ) (before : S) → w ≡ holding v count before → 0 < v.units → 0 < w.units
  still_shares v w count before is some' = let P : View S C R → Type 0 = λ u. 0 < u.units in subst P (sym is) some'

  -- what the pass knows after the push
  pub put_back : (v w z : View S C R) (place : ℕ) (before before' : S) (call call' : C) (reply : R) (after : S) → w ≡ holding v place before → before' ≡ before → call' ≡ call
      → z ≡ with_turn w (turn_of place before' call' reply after) → z ≡ with_turn v (turn_of place before call reply after)
  put_back v w z place before before' call call' reply after is same same' back =
      back ∙ (λ i. with_turn (is i) (turn_of place (same i) (same' i) reply after))

  pub put_shares : (v z : View S C R) (place : ℕ) (before : S) (call : C) (reply : R) (after : S) → z ≡ with_turn v (turn_of place before call reply after) → 0 < v.units → 0 < z.units
  put_shares v z place before call reply after is some' = let P : View S C R → Type 0 = λ u. 0 < u.units in subst P (sym is) some'

  pub put_free : (v z : View S C R) (place : ℕ) (before : S) (call : C) (reply : R) (after : S) → z ≡ with_turn v (turn_of place before call reply after) → z.held ≡ None
  put_free v z place before call reply after is = ap (λ (u : View S C R). u.held) is

module _ {S C R : Type 0} (allowed : S → Type 0) (reaches : S → S → Type 0) (step : S → C → R → S → Type 0) where
  pub turned : (v z : View S C R) (place : ℕ) (before : S) (call : C) (reply : R) (after : S) → Finds allowed reaches step v place before → step before call reply after → allowed after
      → z ≡ with_turn v (turn_of place before call reply after) → Turns allowed reaches step v place call reply z
  turned v z place before call reply after found legal ok is = record { before = before; after = after; next = record { found = found; legal = legal; allows = (found.state, ok) }; adds = is }
