-- The rule says each of the points.
use Rattle.std.proofs.Common.{◌≡◌, ◌≢◌, ℕ, zero, suc, ◌+◌, ◌<◌, ◌≤◌, Bool, ◌==◌, eq-eqb, ne_eqb, List, [], ◌∷◌, length, refl, sym, ap, ◌∙◌, subst, inl, inr, ⊎_elim, arith}
use Rattle.std.proofs.lemmas.Bool.{eqb-true}
use Rattle.turn_cell.specs.declared.view.Entry.{Entry}
use Rattle.turn_cell.specs.declared.view.View.{View}
use Rattle.txt_core.specs.Members.{Has}
use Rattle.turn_cell.specs.History.{state_at, Rising, IsHistory}
use Rattle.turn_cell.specs.Passes.{IsPass, IsOwn}
use Rattle.turn_cell.specs.Rule.{owned, Stands}
use Rattle.turn_cell.specs.Points.{Points, RuleSays}
use Rattle.txt_core.proofs.Members.{in_filter, passes_filter, kept_in}
use Rattle.turn_cell.proofs.Histories.{at_all, placed_in, rises, filter_none, first_begins, links, end_allowed, reaches_end, after_reaches}
use Rattle.turn_cell.proofs.Views.{there_is}

module _ {S C R : Type 0} (allowed : S → Type 0) (step : S → C → R → S → Type 0) where
  abbrev H : ℕ → S → List (Entry S C R) → Type 0
  H = IsHistory allowed step

  at_place : (n : ℕ) (s : S) (es : List (Entry S C R)) → H n s es → (k : ℕ) → k < length es → (e : Entry S C R) × Has es e × (e.place ≡ n + k)
  at_place n s [] h k lt = absurd (omega arith)
  at_place n s (e ∷ es) h zero lt = let p = h.0.0 in (e, inl refl, omega (arith, p))
  at_place n s (e ∷ es) h (suc k) lt = let r = at_place (suc n) e.after es h.1 k (omega arith) in (r.0, inr r.1, omega (arith, r.2))

  same_place : (n : ℕ) (s : S) (es : List (Entry S C R)) → H n s es → (e f : Entry S C R) → Has es e → Has es f → e.place ≡ f.place → e ≡ f
  same_place n s [] h e f i j at = absurd i
  same_place n s (x ∷ xs) h e f i j at =
      let here : (y : Entry S C R) → x ≡ y → y.place ≡ n = λ y is. ap (λ (z : Entry S C R). z.place) (sym is) ∙ h.0.0 in
      let there : (y : Entry S C R) → Has xs y → suc n ≤ y.place = λ y k. (placed_in allowed step (suc n) x.after xs h.1 y k).0 in
      ⊎_elim
      (λ (is : x ≡ e). ⊎_elim (λ (is' : x ≡ f). sym is ∙ is') (λ (k : Has xs f). let a = here e is in let b = there f k in absurd (omega (arith, a, b, at))) j)
      (λ (l : Has xs e). ⊎_elim (λ (is' : x ≡ f). let a = here f is' in let b = there e l in absurd (omega (arith, a, b, at))) (λ (k : Has xs f). same_place (suc n) x.after xs h.1 e f l k at) j) i

  -- the state after the entry at a place
  state_after : (n : ℕ) (s : S) (es : List (Entry S C R)) → H n s es → (e : Entry S C R) → Has es e → (k : ℕ) → e.place + 1 ≡ n + k → state_at s es k ≡ e.after
  state_after n s [] h e i k at = absurd i
  state_after n s (x ∷ xs) h e i zero at = let p = (placed_in allowed step n s (x ∷ xs) h e i).0 in absurd (omega (arith, p, at))
  state_after n s (x ∷ xs) h e i (suc k) at = ⊎_elim
      (λ (is : x ≡ e). let p : e.place ≡ n = ap (λ (z : Entry S C R). z.place) (sym is) ∙ h.0.0 in let z : k ≡ 0 = omega (arith, p, at) in
      ap (state_at x.after xs) z ∙ ap (λ (y : Entry S C R). y.after) is)
      (λ (there : Has xs e). state_after (suc n) x.after xs h.1 e there k (omega (arith, at))) i

  entry_legal : (n : ℕ) (s : S) (es : List (Entry S C R)) → H n s es → (e : Entry S C R) → Has es e → step e.before e.call e.reply e.after
  entry_legal n s [] h e i = absurd i
  entry_legal n s (x ∷ xs) h e i = ⊎_elim (λ (is : x ≡ e). subst (λ (y : Entry S C R). step y.before y.call y.reply y.after) is h.0.2) (λ (there : Has xs e). entry_legal (suc n) x.after xs h.1 e there) i

  entry_allowed : (n : ℕ) (s : S) (es : List (Entry S C R)) → H n s es → allowed s → (e : Entry S C R) → Has es e → allowed e.before × allowed e.after
  entry_allowed n s [] h a e i = absurd i
  entry_allowed n s (x ∷ xs) h a e i = ⊎_elim
      (λ (is : x ≡ e). subst (λ (y : Entry S C R). allowed y.before × allowed y.after) is (subst allowed (sym h.0.1) a, h.0.3))
      (λ (there : Has xs e). entry_allowed (suc n) x.after xs h.1 h.0.3 e there) i

  state_allowed : (n : ℕ) (s : S) (es : List (Entry S C R)) → H n s es → allowed s → (k : ℕ) → allowed (state_at s es k)
  state_allowed n s [] h a zero = a
  state_allowed n s [] h a (suc k) = a
  state_allowed n s (e ∷ es) h a zero = a
  state_allowed n s (e ∷ es) h a (suc k) = state_allowed (suc n) e.after es h.1 h.0.3 k

module _ {S C R : Type 0} (allowed : S → Type 0) (reaches : S → S → Type 0) (step : S → C → R → S → Type 0)
    (self : (s : S) → reaches s s) (later : (s t u : S) → reaches s t → reaches t u → reaches s u)
    (steps : (s : S) (c : C) (r : R) (t : S) → allowed s → step s c r t → reaches s t) where
  points : (views : List (View S C R)) (count : ℕ) (now opening : S) → Stands allowed step views count now opening → Points allowed reaches step views count now opening
  points views count now opening st =
      let h = st.history in
      let counted = st.counted in
      let test : ℕ → Entry S C R → Bool = λ port e. st.owner e.place == port in
      let there : (i : ℕ) (e : Entry S C R) → IsOwn views i e → Has (owned st.owner i h) e = λ i e o. subst (λ (l : List (Entry S C R)). Has l e) (st.fits i o.0 o.1).own o.2 in
      let inside : (i : ℕ) (e : Entry S C R) → IsOwn views i e → Has h e = λ i e o. in_filter (test i) h e (there i e o) in
      let whose : (i : ℕ) (e : Entry S C R) → IsOwn views i e → st.owner e.place ≡ i = λ i e o. eqb-true (st.owner e.place) i (passes_filter (test i) h e (there i e o)) in
      let near : (i : ℕ) (e : Entry S C R) → IsOwn views i e → e.place < length h = λ i e o. let p = (placed_in allowed step 0 opening h st.legal e (inside i e o)).1 in omega (arith, p) in
      let kept : (port : ℕ) (v : View S C R) → IsPass views port v → (e : Entry S C R) → Has h e → st.owner e.place ≡ port → Has v.own e = λ port v at e i is.
      let own : v.own ≡ owned st.owner port h = (st.fits port v at).own in
      subst (λ (l : List (Entry S C R)). Has l e) (sym own) (kept_in (test port) h e i (eq-eqb (st.owner e.place) port is)) in
      record {
        whole = st.whole;
        spent = λ port v at none. (st.fits port v at).own ∙ filter_none allowed step (test port) 0 opening h st.legal (λ e l g. let b : st.owner e.place ≢ port = λ f. let x = ((st.fits port v at).below e.place (omega (arith, g)) f).1 in omega (arith, x, none) in ne_eqb (st.owner e.place) port b);
        each = λ k lt. let r = at_place allowed step 0 opening h st.legal k (omega (arith, lt, counted)) in let e = r.0 in let place : e.place ≡ k = omega (arith, r.2) in let port = st.owner e.place in
            let v = there_is views port (st.placed e.place (omega (arith, place, lt))) in
            (port, e, (v.0, v.1, kept port v.0 v.1 e r.1 refl), place);
        once = λ i j e f o q at. let same = same_place allowed step 0 opening h st.legal e f (inside i e o) (inside j f q) at in (sym (whose i e o) ∙ (ap st.owner at ∙ whose j f q), same);
        below = λ i e o. let n = near i e o in omega (arith, n, counted);
        rising = λ port v at. subst Rising (sym (st.fits port v at).own) (rises allowed step (test port) 0 opening h st.legal);
        legal = λ i e o. entry_legal allowed step 0 opening h st.legal e (inside i e o);
        first = λ i e o at. first_begins allowed step 0 opening h st.legal e (inside i e o) at;
        next = λ i j e f o q at. links allowed step 0 opening h st.legal e f (inside i e o) (inside j f q) at;
        last = λ i e o at. sym (state_after allowed step 0 opening h st.legal e (inside i e o) count (omega (arith, at))) ∙ (ap (state_at opening h) (sym counted) ∙ (at_all opening h ∙ st.ends));
        none = λ z. sym st.ends ∙ (sym (at_all opening h) ∙ ap (state_at opening h) (let g : length h ≡ 0 = counted ∙ z in g));
        seen = λ port v at some'. let f = st.fits port v at in let s = f.seen some' in (
          omega (arith, s, counted),
          f.opens some',
          λ e i. let o : IsOwn views port e = (v, at, i) in (f.below e.place (near port e o) (whose port e o)).0,
        );
        low_first = λ port v at some' z. (st.fits port v at).low some' ∙ ap (state_at opening h) z;
        low = λ port v at some' j e o is. (st.fits port v at).low some' ∙ state_after allowed step 0 opening h st.legal e (inside j e o) v.seen (omega (arith, is));
        low_reaches = λ port v at some'. subst (λ (y : S × S). reaches y.0 y.1) (λ i. (sym ((st.fits port v at).low some') i, st.ends i)) (reaches_end allowed reaches step self later steps 0 opening h st.legal st.opens v.seen);
        own_reaches = λ i e o. subst (reaches e.after) st.ends (after_reaches allowed reaches step self later steps 0 opening h st.legal st.opens e (inside i e o));
        allowed_ends = (st.opens, subst allowed st.ends (end_allowed allowed step 0 opening h st.legal st.opens));
        allowed_low = λ port v at some'. subst allowed (sym ((st.fits port v at).low some')) (state_allowed allowed step 0 opening h st.legal st.opens v.seen);
        allowed_own = λ i e o. entry_allowed allowed step 0 opening h st.legal st.opens e (inside i e o);
      }

  pub rule_says : RuleSays allowed reaches step
  rule_says items views r = (r.0, r.1, r.2, points views r.0 r.1 r.2 r.3, r.4)
