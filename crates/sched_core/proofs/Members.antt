-- Membership in lists, at the first element and behind it.
use Rattle.std.proofs.Common.{◌≡◌, ◌⊎◌, zero, suc, Bool, true, false, cond, List, [], ◌∷◌, refl, sym, ap, ◌∙◌, inl, inr, ⊎_elim, arith}
use Rattle.std.specs.List.{Contains, filter}

module _ {X : Type 0} where
  pub nothing : (x : X) → Contains [] x → ⊥
  nothing x (k, lt, is) = omega arith

  pub here : (x : X) (xs : List X) → Contains (x ∷ xs) x
  here x xs = (0, omega arith, refl)

  pub there : (y : X) (xs : List X) (x : X) → Contains xs x → Contains (y ∷ xs) x
  there y xs x (k, lt, is) = (suc k, omega arith, is)

  pub first_or : (y : X) (xs : List X) (x : X) → Contains (y ∷ xs) x → (y ≡ x) ⊎ Contains xs x
  first_or y xs x (zero, lt, is) = inl is
  first_or y xs x (suc k, lt, is) = inr (k, omega arith, is)

  -- what a filter keeps is in the list
  pub in_filter : (p : X → Bool) (xs : List X) (x : X) → Contains (filter p xs) x → Contains xs x
  in_filter p [] x i = i
  in_filter p (y ∷ ys) x i =
      let go : (b : Bool) → Contains (cond b (y ∷ filter p ys) (filter p ys)) x → Contains (y ∷ ys) x = λ b. elim b as (λ b. Contains (cond b (y ∷ filter p ys) (filter p ys)) x → Contains (y ∷ ys) x) [
        | true ↦ λ h. ⊎_elim (λ (is : y ≡ x). (0, omega arith, is)) (λ (i : Contains (filter p ys) x). there y ys x (in_filter p ys x i)) (first_or y (filter p ys) x h)
        | false ↦ λ h. there y ys x (in_filter p ys x h)
      ] in go (p y) i

  -- what a filter keeps passes the test
  pub passes_filter : (p : X → Bool) (xs : List X) (x : X) → Contains (filter p xs) x → p x ≡ true
  passes_filter p [] x i = absurd (nothing x i)
  passes_filter p (y ∷ ys) x i =
      let go : (b : Bool) → p y ≡ b → Contains (cond b (y ∷ filter p ys) (filter p ys)) x → p x ≡ true = λ b. elim b as (λ b. p y ≡ b → Contains (cond b (y ∷ filter p ys) (filter p ys)) x → p x ≡ true) [
        | true ↦ λ is h. ⊎_elim (λ (same : y ≡ x). ap p (sym same) ∙ is) (λ (i : Contains (filter p ys) x). passes_filter p ys x i) (first_or y (filter p ys) x h)
        | false ↦ λ is h. passes_filter p ys x h
      ] in go (p y) refl i

  -- a filter keeps what passes the test
  pub kept_in : (p : X → Bool) (xs : List X) (x : X) → Contains xs x → p x ≡ true → Contains (filter p xs) x
  kept_in p [] x i t = i
  kept_in p (y ∷ ys) x i t =
      let go : (b : Bool) → p y ≡ b → Contains (cond b (y ∷ filter p ys) (filter p ys)) x = λ b. elim b as (λ b. p y ≡ b → Contains (cond b (y ∷ filter p ys) (filter p ys)) x) [
        | true ↦ λ is. ⊎_elim (λ (same : y ≡ x). (0, omega arith, same)) (λ (i : Contains ys x). there y (filter p ys) x (kept_in p ys x i t)) (first_or y ys x i)
        | false ↦ λ is. ⊎_elim (λ (same : y ≡ x). let f : Path Bool false true = sym is ∙ (ap p same ∙ t) in cc) (λ (i : Contains ys x). kept_in p ys x i t) (first_or y ys x i)
      ] in go (p y) refl

  -- a filter that each element passes keeps the list
  pub filter_all : (p : X → Bool) (xs : List X) → ((x : X) → Contains xs x → p x ≡ true) → filter p xs ≡ xs
  filter_all p [] h = refl
  filter_all p (y ∷ ys) h =
      let a : p y ≡ true = h y (here y ys) in
      let b : filter p ys ≡ ys = filter_all p ys (λ x i. h x (there y ys x i)) in
      λ i. cond (a i) (y ∷ b i) (b i)

  -- two tests that agree keep the same
  pub same_filter : (p q : X → Bool) (xs : List X) → ((x : X) → p x ≡ q x) → filter p xs ≡ filter q xs
  same_filter p q [] h = refl
  same_filter p q (y ∷ ys) h =
      let a : p y ≡ q y = h y in
      let b : filter p ys ≡ filter q ys = same_filter p q ys h in
      λ i. cond (a i) (y ∷ b i) (b i)
