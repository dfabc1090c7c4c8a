-- How the passes go on standing together.
use Rattle.std.proofs.Common.{◌≡◌, ◌≢◌, ℕ, ◌<◌, ◌==◌, eq-eqb, List, [], set, Option, Some, None, refl, sym, ap, ◌∙◌, subst, inl, inr, ⊎_elim, arith}
use Rattle.std.proofs.Math.ListN.{length-set}
use mathlib.Core.Option.{some, some-injective}
use mathlib.Core.Logic.{dite}
use native.Mathlib.Decide.{ℕ_discrete}
use lib.ListN.{get_elem?}
use Rattle.crossbeam_queue.proofs.Lists.{at_set, set_else}
use Rattle.turn_cell.specs.declared.view.View.{View}
use Rattle.turn_cell.specs.declared.view.Kept.{Kept}
use Rattle.txt_core.specs.Shares.{WHOLE}
use Rattle.turn_cell.specs.Rule.{Fits, InQueue, WithPass, IsInOnePlace, Stands}
use Rattle.turn_cell.proofs.Histories.{filter_all}
use Rattle.turn_cell.proofs.Views.{there_is, units_set, units_two}

module _ {S C R : Type 0} (allowed : S → Type 0) (step : S → C → R → S → Type 0) where
  abbrev St : List (View S C R) → ℕ → S → S → Type 0
  St = Stands allowed step

  -- a view changes, with the same units
  pub put_view : (views : List (View S C R)) (count : ℕ) (now opening : S) (st : St views count now opening) (port : ℕ) (v w : View S C R) → get_elem? views port ≡ some v
      → w.units ≡ v.units → Fits st.history opening st.owner port w → St (set views port w) count now opening
  put_view views count now opening st port v w at units fit = record {
    history = st.history;
    owner = st.owner;
    counted = st.counted;
    opens = st.opens;
    legal = st.legal;
    ends = st.ends;
    whole = let u = units_set views port v w at in let t = st.whole in omega (arith, u, t);
    placed = λ k lt. let p = st.placed k lt in let e = length-set views port w in omega (arith, p, e);
    fits = λ j u e. ⊎_elim
        (λ (h : (j ≡ port) × (w ≡ u)). subst (λ (y : ℕ × View S C R). Fits st.history opening st.owner y.0 y.1) (λ i. (sym h.0 i, h.1 i)) fit)
        (λ (h : (j ≢ port) × (get_elem? views j ≡ some u)). st.fits j u h.1) (at_set views port j w u e);
  }

  -- a pass that has every unit owns each place
  pub owns_all : (views : List (View S C R)) (count : ℕ) (now opening : S) (st : St views count now opening) (port : ℕ) (v : View S C R) → get_elem? views port ≡ some v
      → v.units ≡ WHOLE → (k : ℕ) → k < count → st.owner k ≡ port
  owns_all views count now opening st port v at all k lt =
      let o = st.owner k in
      let u = there_is views o (st.placed k lt) in
      let b = (st.fits o u.0 u.1).below k (omega (arith, lt, st.counted)) refl in
      dite (ℕ_discrete o port) (λ e. e) (λ ne. let two = units_two views port o v u.0 at u.1 ne in let w = st.whole in absurd (omega (arith, two, w, b.1, all)))

  -- its own entries are the whole history
  pub owns_history : (views : List (View S C R)) (count : ℕ) (now opening : S) (st : St views count now opening) (port : ℕ) (v : View S C R) → get_elem? views port ≡ some v
      → v.units ≡ WHOLE → v.own ≡ st.history
  owns_history views count now opening st port v at all =
      (st.fits port v at).own ∙ filter_all allowed step (λ e. st.owner e.place == port) 0 opening st.history st.legal
      (λ e l g. eq-eqb (st.owner e.place) port (owns_all views count now opening st port v at all e.place (omega (arith, g, st.counted))))

  -- where the object is stays, as a pass that has it not changes into one that has it not
  pub in_set : (items : List (Kept S)) (views : List (View S C R)) (count : ℕ) (now : S) (port : ℕ) (v w : View S C R) → get_elem? views port ≡ some v
      → v.held ≡ None → w.held ≡ None → IsInOnePlace items views count now → IsInOnePlace items (set views port w) count now
  in_set items views count now port v w at off off' i = ⊎_elim
      (λ (q : InQueue items views count now). inl record {
        item = q.item;
        items_are = q.items_are;
        counts = q.counts;
        object = q.object;
        none = λ j u e. ⊎_elim (λ (h : (j ≡ port) × (w ≡ u)). ap (λ (y : View S C R). y.held) (sym h.1) ∙ off') (λ (h : (j ≢ port) × (get_elem? views j ≡ some u)). q.none j u h.1) (at_set views port j w u e);
      })
      (λ (q : WithPass items views count now).
      let apart : q.holder ≢ port = λ e. let same : q.by ≡ v = some-injective q.by v (sym q.at ∙ ap (get_elem? views) e ∙ at) in let has = q.has in cc (ap (λ (y : View S C R). y.held) same) in
      inr record {
        holder = q.holder;
        by = q.by;
        items_are = q.items_are;
        shares = q.shares;
        has = q.has;
        at = set_else views port q.holder w apart ∙ q.at;
        others = λ j u e ne. ⊎_elim (λ (h : (j ≡ port) × (w ≡ u)). ap (λ (y : View S C R). y.held) (sym h.1) ∙ off') (λ (h : (j ≢ port) × (get_elem? views j ≡ some u)). q.others j u h.1 ne) (at_set views port j w u e);
      }) i

  -- the only pass that may have the object has it
  pub out_at : (items : List (Kept S)) (views : List (View S C R)) (count : ℕ) (now : S) (port : ℕ) (v : View S C R) (count' : ℕ) (now' : S) → get_elem? views port ≡ some v
      → v.held ≡ Some (count', now') → IsInOnePlace items views count now
      → (items ≡ []) × (count' ≡ count) × (now' ≡ now) × ((j : ℕ) (u : View S C R) → get_elem? views j ≡ some u → j ≢ port → u.held ≡ None)
  out_at items views count now port v count' now' at has i = ⊎_elim
      (λ (q : InQueue items views count now). let off = q.none port v at in cc)
      (λ (q : WithPass items views count now). dite (ℕ_discrete port q.holder)
      (λ e. let same : v ≡ q.by = some-injective v q.by (sym at ∙ ap (get_elem? views) e ∙ q.at) in
      let both : Path (Option (ℕ × S)) (Some (count', now')) (Some (count, now)) = sym has ∙ ap (λ (y : View S C R). y.held) same ∙ q.has in
      let pair : Path (ℕ × S) (count', now') (count, now) = cc in
      (q.items_are, ap (λ (y : ℕ × S). y.0) pair, ap (λ (y : ℕ × S). y.1) pair, λ j u a ne. q.others j u a (λ f. ne (f ∙ sym e))))
      (λ ne. let off = q.others port v at ne in cc)) i
