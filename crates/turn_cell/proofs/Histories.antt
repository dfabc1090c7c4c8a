-- Lemmas on histories.
use Rattle.std.proofs.Common.{◌≡◌, ℕ, zero, suc, ◌+◌, ◌<◌, ◌≤◌, Bool, true, false, cond, ◌||◌, nat_lt, List, [], ◌∷◌, ◌++◌, length, refl, sym, ap, ◌∙◌, subst, inl, inr, ⊎_elim, arith}
use Rattle.std.proofs.lemmas.List.{take-append-le}
use Rattle.std.proofs.lemmas.Bool.Decides.{nat_tests}
use Rattle.std.specs.List.{filter}
use Rattle.turn_cell.specs.declared.view.Entry.{Entry}
use Rattle.txt_core.specs.Members.{Has}
use Rattle.turn_cell.specs.History.{after_of, state_at, Rising, IsTurn, IsHistory}
use Rattle.turn_cell.specs.Passes.{put_in, merged}
use Rattle.txt_core.proofs.Members.{in_filter}

module _ {S C R : Type 0} where
  length_put : (e : Entry S C R) (fs : List (Entry S C R)) → length (put_in e fs) ≡ length fs + 1
  length_put e [] = refl
  length_put e (f ∷ fs) =
      let ih = length_put e fs in
      let P : Bool → Type 0 = λ b. length (cond b (e ∷ f ∷ fs) (f ∷ put_in e fs)) ≡ length (f ∷ fs) + 1 in
      elim (nat_lt e.place f.place) as P [ true ↦ omega arith | false ↦ omega (arith, ih) ]

  -- a join keeps each entry of both
  pub length_merged : (es fs : List (Entry S C R)) → length (merged es fs) ≡ length es + length fs
  length_merged [] fs = omega arith
  length_merged (e ∷ es) fs = let ih = length_merged es fs in let p = length_put e (merged es fs) in omega (arith, ih, p)

  pub after_append : (s : S) (es fs : List (Entry S C R)) → after_of s (es ++ fs) ≡ after_of (after_of s es) fs
  after_append s [] fs = refl
  after_append s (e ∷ es) fs = after_append e.after es fs

  pub at_more : (s : S) (es fs : List (Entry S C R)) (n : ℕ) → n ≤ length es → state_at s (es ++ fs) n ≡ state_at s es n
  at_more s es fs n le = ap (after_of s) (take-append-le n es fs le)

  pub at_all : (s : S) (es : List (Entry S C R)) → state_at s es (length es) ≡ after_of s es
  at_all s [] = refl
  at_all s (e ∷ es) = at_all e.after es

module _ {S C R : Type 0} (allowed : S → Type 0) (step : S → C → R → S → Type 0) where
  abbrev H : ℕ → S → List (Entry S C R) → Type 0
  H = IsHistory allowed step

  pub snoc : (n : ℕ) (s : S) (es : List (Entry S C R)) (e : Entry S C R) → H n s es → IsTurn allowed step (n + length es) (after_of s es) e → H n s (es ++ e ∷ [])
  snoc n s [] e h t = (subst (λ (k : ℕ). IsTurn allowed step k s e) (omega arith) t, tt)
  snoc n s (f ∷ fs) e h t = (h.0, snoc (suc n) f.after fs e h.1 (subst (λ (k : ℕ). IsTurn allowed step k (after_of f.after fs) e) (omega arith) t))

  -- an entry's place lies in the history
  pub placed_in : (n : ℕ) (s : S) (es : List (Entry S C R)) → H n s es → (e : Entry S C R) → Has es e → (n ≤ e.place) × (e.place < n + length es)
  placed_in n s [] h e i = absurd i
  placed_in n s (f ∷ fs) h e i = ⊎_elim
      (λ (is : f ≡ e). let p : e.place ≡ n = ap (λ (x : Entry S C R). x.place) (sym is) ∙ h.0.0 in (omega arith, omega arith))
      (λ (there : Has fs e). let r = placed_in (suc n) f.after fs h.1 e there in (omega (arith, r.0), omega (arith, r.1))) i

  -- two tests that agree on the places of the history keep the same entries
  pub same_filter : (p q : Entry S C R → Bool) (n : ℕ) (s : S) (es : List (Entry S C R)) → H n s es → ((e : Entry S C R) → n ≤ e.place → e.place < n + length es → p e ≡ q e) → filter p es ≡ filter q es
  same_filter p q n s [] h agree = refl
  same_filter p q n s (e ∷ es) h agree =
      let place = h.0.0 in
      let a : p e ≡ q e = agree e (omega arith) (omega arith) in
      let b : filter p es ≡ filter q es = same_filter p q (suc n) e.after es h.1 (λ f l g. agree f (omega arith) (omega arith)) in
      λ i. cond (a i) (e ∷ b i) (b i)

  pub filter_all : (p : Entry S C R → Bool) (n : ℕ) (s : S) (es : List (Entry S C R)) → H n s es → ((e : Entry S C R) → n ≤ e.place → e.place < n + length es → p e ≡ true) → filter p es ≡ es
  filter_all p n s [] h agree = refl
  filter_all p n s (e ∷ es) h agree =
      let place = h.0.0 in
      let a : p e ≡ true = agree e (omega arith) (omega arith) in
      let b : filter p es ≡ es = filter_all p (suc n) e.after es h.1 (λ f l g. agree f (omega arith) (omega arith)) in
      λ i. cond (a i) (e ∷ b i) (b i)

  pub filter_none : (p : Entry S C R → Bool) (n : ℕ) (s : S) (es : List (Entry S C R)) → H n s es → ((e : Entry S C R) → n ≤ e.place → e.place < n + length es → p e ≡ false) → filter p es ≡ []
  filter_none p n s [] h agree = refl
  filter_none p n s (e ∷ es) h agree =
      let place = h.0.0 in
      let a : p e ≡ false = agree e (omega arith) (omega arith) in
      let b : filter p es ≡ [] = filter_none p (suc n) e.after es h.1 (λ f l g. agree f (omega arith) (omega arith)) in
      λ i. cond (a i) (e ∷ b i) (b i)

  put_first : (e : Entry S C R) (fs : List (Entry S C R)) → ((f : Entry S C R) → Has fs f → e.place < f.place) → put_in e fs ≡ e ∷ fs
  put_first e [] h = refl
  put_first e (f ∷ fs) h =
      let lt : e.place < f.place = h f (inl refl) in
      let t : nat_lt e.place f.place ≡ true = grind (arith, nat_tests) in
      ap (λ (b : Bool). cond b (e ∷ f ∷ fs) (f ∷ put_in e fs)) t

  merged_later : (e : Entry S C R) (xs ys : List (Entry S C R)) → ((f : Entry S C R) → Has xs f → e.place < f.place) → merged xs (e ∷ ys) ≡ e ∷ merged xs ys
  merged_later e [] ys h = refl
  merged_later e (x ∷ xs) ys h =
      let lt : e.place < x.place = h x (inl refl) in
      let t : nat_lt x.place e.place ≡ false = grind (arith, nat_tests) in
      ap (put_in x) (merged_later e xs ys (λ f i. h f (inr i))) ∙ ap (λ (b : Bool). cond b (x ∷ e ∷ merged xs ys) (e ∷ put_in x (merged xs ys))) t

  -- the entries of two passes, put together in order of place, are those of the pass that has both
  pub merges_filters : (p q r : Entry S C R → Bool) (n : ℕ) (s : S) (es : List (Entry S C R)) → H n s es
      → ((e : Entry S C R) → n ≤ e.place → e.place < n + length es → (r e ≡ p e || q e) × (p e ≡ true → q e ≡ false))
      → merged (filter p es) (filter q es) ≡ filter r es
  merges_filters p q r n s [] h agree = refl
  merges_filters p q r n s (e ∷ es) h agree =
      let place = h.0.0 in
      let a = agree e (omega arith) (omega arith) in
      let ih : merged (filter p es) (filter q es) ≡ filter r es = merges_filters p q r (suc n) e.after es h.1 (λ f l g. agree f (omega arith) (omega arith)) in
      let later : (t : Entry S C R → Bool) (f : Entry S C R) → Has (filter t es) f → e.place < f.place =
      λ t f i. let w = (placed_in (suc n) e.after es h.1 f (in_filter t es f i)).0 in omega (arith, w) in
      let go : (x y z : Bool) → z ≡ x || y → (x ≡ true → y ≡ false) → merged (cond x (e ∷ filter p es) (filter p es)) (cond y (e ∷ filter q es) (filter q es)) ≡ cond z (e ∷ filter r es) (filter r es) =
      λ x y z. elim x as (λ x. z ≡ x || y → (x ≡ true → y ≡ false) → merged (cond x (e ∷ filter p es) (filter p es)) (cond y (e ∷ filter q es) (filter q es)) ≡ cond z (e ∷ filter r es) (filter r es)) [
        | true ↦ λ is no.
            ap (λ (b : Bool). put_in e (merged (filter p es) (cond b (e ∷ filter q es) (filter q es)))) (no refl)
            ∙ ap (put_in e) ih
            ∙ put_first e (filter r es) (later r)
            ∙ ap (λ (b : Bool). cond b (e ∷ filter r es) (filter r es)) (sym is)
        | false ↦ λ is no. elim y as (λ y. z ≡ y → merged (filter p es) (cond y (e ∷ filter q es) (filter q es)) ≡ cond z (e ∷ filter r es) (filter r es)) [
          | true ↦ λ is. merged_later e (filter p es) (filter q es) (later p) ∙ ap (λ (l : List (Entry S C R)). e ∷ l) ih ∙ ap (λ (b : Bool). cond b (e ∷ filter r es) (filter r es)) (sym is)
          | false ↦ λ is. ih ∙ ap (λ (b : Bool). cond b (e ∷ filter r es) (filter r es)) (sym is)
        ] is
      ] in
      go (p e) (q e) (r e) a.0 a.1

  -- the first entry begins in the first state
  pub first_begins : (n : ℕ) (s : S) (es : List (Entry S C R)) → H n s es → (e : Entry S C R) → Has es e → e.place ≡ n → e.before ≡ s
  first_begins n s [] h e i at = absurd i
  first_begins n s (x ∷ xs) h e i at = ⊎_elim
      (λ (is : x ≡ e). ap (λ (y : Entry S C R). y.before) (sym is) ∙ h.0.1)
      (λ (there : Has xs e). let w = (placed_in (suc n) x.after xs h.1 e there).0 in absurd (omega (arith, w, at))) i

  -- each next entry begins where the one before it ended
  pub links : (n : ℕ) (s : S) (es : List (Entry S C R)) → H n s es → (e f : Entry S C R) → Has es e → Has es f → f.place ≡ e.place + 1 → f.before ≡ e.after
  links n s [] h e f i j at = absurd i
  links n s (x ∷ xs) h e f i j at =
      let here : (y : Entry S C R) → x ≡ y → y.place ≡ n = λ y is. ap (λ (z : Entry S C R). z.place) (sym is) ∙ h.0.0 in
      let there : (y : Entry S C R) → Has xs y → suc n ≤ y.place = λ y k. (placed_in (suc n) x.after xs h.1 y k).0 in
      ⊎_elim
      (λ (is : x ≡ e). ⊎_elim
      (λ (is' : x ≡ f). let a = here e is in let b = here f is' in absurd (omega (arith, a, b)))
      (λ (k : Has xs f). let a = here e is in first_begins (suc n) x.after xs h.1 f k (omega (arith, a)) ∙ ap (λ (z : Entry S C R). z.after) is) j)
      (λ (l : Has xs e). ⊎_elim
      (λ (is' : x ≡ f). let a = here f is' in let b = there e l in absurd (omega (arith, a, b)))
      (λ (k : Has xs f). links (suc n) x.after xs h.1 e f l k at) j) i

  -- a part of a history has rising places
  pub rises : (p : Entry S C R → Bool) (n : ℕ) (s : S) (es : List (Entry S C R)) → H n s es → Rising (filter p es)
  rises p n s [] h = tt
  rises p n s (e ∷ es) h =
      let ih = rises p (suc n) e.after es h.1 in
      let later : (f : Entry S C R) → Has (filter p es) f → e.place < f.place = λ f i. let q = (placed_in (suc n) e.after es h.1 f (in_filter p es f i)).0 in let t = h.0.0 in omega (arith, q, t) in
      let P : Bool → Type 0 = λ b. Rising (cond b (e ∷ filter p es) (filter p es)) in
      elim (p e) as P [ true ↦ (later, ih) | false ↦ ih ]

  pub end_allowed : (n : ℕ) (s : S) (es : List (Entry S C R)) → H n s es → allowed s → allowed (after_of s es)
  end_allowed n s [] h a = a
  end_allowed n s (e ∷ es) h a = end_allowed (suc n) e.after es h.1 h.0.3

module _ {S C R : Type 0} (allowed : S → Type 0) (reaches : S → S → Type 0) (step : S → C → R → S → Type 0)
    (self : (s : S) → reaches s s) (later : (s t u : S) → reaches s t → reaches t u → reaches s u)
    (steps : (s : S) (c : C) (r : R) (t : S) → allowed s → step s c r t → reaches s t) where
  one : (n : ℕ) (s : S) (e : Entry S C R) → allowed s → IsTurn allowed step n s e → reaches s e.after
  one n s e a t = steps s e.call e.reply e.after a (subst (λ (x : S). step x e.call e.reply e.after) t.1 t.2)

  -- each state of the history reaches its end
  pub reaches_end : (n : ℕ) (s : S) (es : List (Entry S C R)) → IsHistory allowed step n s es → allowed s → (k : ℕ) → reaches (state_at s es k) (after_of s es)
  reaches_end n s [] h a zero = self s
  reaches_end n s [] h a (suc k) = self s
  reaches_end n s (e ∷ es) h a zero = later s e.after (after_of e.after es) (one n s e a h.0) (reaches_end (suc n) e.after es h.1 h.0.3 zero)
  reaches_end n s (e ∷ es) h a (suc k) = reaches_end (suc n) e.after es h.1 h.0.3 k

  pub after_reaches : (n : ℕ) (s : S) (es : List (Entry S C R)) → IsHistory allowed step n s es → allowed s → (e : Entry S C R) → Has es e → reaches e.after (after_of s es)
  after_reaches n s [] h a e i = absurd i
  after_reaches n s (x ∷ xs) h a e i = ⊎_elim
      (λ (is : x ≡ e). subst (λ (y : Entry S C R). reaches y.after (after_of x.after xs)) is (reaches_end (suc n) x.after xs h.1 h.0.3 zero))
      (λ (there : Has xs e). after_reaches (suc n) x.after xs h.1 h.0.3 e there) i
