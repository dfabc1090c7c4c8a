-- The laws of several turns of one pass in a row.
use Rattle.std.proofs.Common.{◌≡◌, ℕ, List, [], ◌∷◌, ◌++◌, refl, sym, ap, ◌∙◌, subst, ⊎_elim, append_assoc, arith}
use Rattle.std.proofs.lemmas.List.{append-nil}
use Rattle.turn_cell.specs.declared.view.Entry.{Entry}
use Rattle.turn_cell.specs.declared.view.View.{View}
use Rattle.txt_core.specs.Members.{Has}
use Rattle.turn_cell.specs.Passes.{turn_of, with_turn}
use Rattle.turn_cell.specs.Steps.{Turns}
use Rattle.turn_cell.specs.Chains.{TakesTurns, IsAfter, IsBetween, SingleTurns, ChainsInARow, ChainsLeave, ChainsFollow, ChainsRise}
use Rattle.txt_core.proofs.Members.{has_front}

module _ {S C R : Type 0} (allowed : S → Type 0) (reaches : S → S → Type 0) (step : S → C → R → S → Type 0) where
  -- a turn is a chain of one
  pub one_turn : (v w : View S C R) (place : ℕ) (call : C) (reply : R) (t : Turns allowed reaches step v place call reply w)
      → TakesTurns allowed reaches step v (turn_of place t.before call reply t.after ∷ []) w
  one_turn v w place call reply t = (t.next, t.adds)

  -- a chain of one is a turn
  pub of_one : (v w : View S C R) (e : Entry S C R) → TakesTurns allowed reaches step v (e ∷ []) w → Turns allowed reaches step v e.place e.call e.reply w
  of_one v w e g = record { before = e.before; after = e.after; next = g.0; adds = g.1 }

  pub single_turns : SingleTurns allowed reaches step
  single_turns v w place call reply = (
    λ t. (turn_of place t.before call reply t.after, refl, refl, refl, one_turn v w place call reply t),
    λ r. subst (λ (y : ℕ × C × R). Turns allowed reaches step v y.0 y.1 y.2 w) (λ i. (r.1 i, r.2 i, r.3 i)) (of_one v w r.0 r.4),
  )

  -- turns in a row, and then more turns
  pub in_a_row : (v m w : View S C R) (es fs : List (Entry S C R)) → TakesTurns allowed reaches step v es m → TakesTurns allowed reaches step m fs w → TakesTurns allowed reaches step v (es ++ fs) w
  in_a_row v m w [] fs g h = subst (λ (z : View S C R). TakesTurns allowed reaches step z fs w) g h
  in_a_row v m w (e ∷ es) fs g h = (g.0, in_a_row (with_turn v e) m w es fs g.1 h)

  -- what the pass knew between two parts of a chain
  pub cut : (v w : View S C R) (es fs : List (Entry S C R)) → TakesTurns allowed reaches step v (es ++ fs) w
      → (m : View S C R) × TakesTurns allowed reaches step v es m × TakesTurns allowed reaches step m fs w
  cut v w [] fs h = (v, refl, h)
  cut v w (e ∷ es) fs h = let r = cut (with_turn v e) w es fs h.1 in (r.0, (h.0, r.1), r.2)

  pub chains_in_a_row : ChainsInARow allowed reaches step
  chains_in_a_row v w es fs = (cut v w es fs, λ r. in_a_row v r.0 w es fs r.1 r.2)

  -- the own entries after a chain
  pub own_after : (v w : View S C R) (es : List (Entry S C R)) → TakesTurns allowed reaches step v es w → w.own ≡ v.own ++ es
  own_after v w [] g = ap (λ (z : View S C R). z.own) g ∙ sym (append-nil v.own)
  own_after v w (e ∷ es) g = own_after (with_turn v e) w es g.1 ∙ append_assoc v.own (e ∷ []) es

module _ {S C R : Type 0} (allowed : S → Type 0) (reaches : S → S → Type 0) (step : S → C → R → S → Type 0)
    (self : (s : S) → reaches s s) (later : (s t u : S) → reaches s t → reaches t u → reaches s u)
    (steps : (s : S) (c : C) (r : R) (t : S) → allowed s → step s c r t → reaches s t) where
  pub chains_leave : ChainsLeave allowed reaches step
  chains_leave v w [] g = record {
    units = ap (λ (z : View S C R). z.units) g;
    opening = ap (λ (z : View S C R). z.opening) g;
    own = own_after allowed reaches step v w [] g;
    seen = ap (λ (z : View S C R). z.seen) g;
    low = ap (λ (z : View S C R). z.low) g;
    sees = let s = ap (λ (z : View S C R). z.seen) g in omega (arith, s);
    lasts = subst (reaches v.low) (sym (ap (λ (z : View S C R). z.low) g)) (self v.low);
  }
  chains_leave v w (e ∷ es) g =
      let r : IsAfter allowed reaches step (with_turn v e) es w = chains_leave (with_turn v e) w es g.1 in
      record {
        units = r.units;
        opening = r.opening;
        own = own_after allowed reaches step v w (e ∷ es) g;
        seen = r.seen;
        low = r.low;
        sees = let p = g.0.found.place in let s = r.sees in omega (arith, p, s);
        lasts = later v.low e.before w.low g.0.found.low (later e.before e.after w.low (steps e.before e.call e.reply e.after g.0.allows.0 g.0.legal) r.lasts);
      }

  pub chains_follow : ChainsFollow allowed reaches step
  chains_follow v w [] g e i = absurd i
  chains_follow v w (x ∷ xs) g e i = ⊎_elim
      (λ (is : x ≡ e).
      let r : IsAfter allowed reaches step (with_turn v x) xs w = chains_leave (with_turn v x) w xs g.1 in
      subst (λ (y : Entry S C R). IsBetween allowed reaches step v y w) is record {
        legal = g.0.legal;
        allows = g.0.allows;
        place = g.0.found.place;
        low = g.0.found.low;
        own = g.0.found.own;
        seen = let s = r.sees in omega (arith, s);
        leaves = r.lasts;
      })
      (λ (there : Has xs e).
      let r : IsBetween allowed reaches step (with_turn v x) e w = chains_follow (with_turn v x) w xs g.1 e there in
      record {
        legal = r.legal;
        allows = r.allows;
        place = let p = g.0.found.place in let s = r.place in omega (arith, p, s);
        low = later v.low x.before e.before g.0.found.low (later x.before x.after e.before (steps x.before x.call x.reply x.after g.0.allows.0 g.0.legal) r.low);
        own = λ f k. r.own f (has_front v.own (x ∷ []) f k);
        seen = r.seen;
        leaves = r.leaves;
      }) i

  pub chains_rise : ChainsRise allowed reaches step
  chains_rise v w [] g = tt
  chains_rise v w (e ∷ es) g = (
    λ f i. let r : IsBetween allowed reaches step (with_turn v e) f w = chains_follow (with_turn v e) w es g.1 f i in let p = r.place in omega (arith, p),
    chains_rise (with_turn v e) w es g.1,
  )
