-- Membership in lists.
use Rattle.std.proofs.Common.{◌≡◌, ◌⊎◌, zero, suc, Bool, true, false, cond, List, [], ◌∷◌, ◌++◌, refl, sym, ap, ◌∙◌, inl, inr, ⊎_elim, arith}
use Rattle.std.specs.List.{Contains, filter}
use Rattle.txt_core.specs.Members.{Has, HasIsContains, AppendHas}

module _ {X : Type 0} where
  contained : (xs : List X) (x : X) → Contains xs x → Has xs x
  contained [] x (k, lt, is) = absurd (omega arith)
  contained (y ∷ ys) x (zero, lt, is) = inl is
  contained (y ∷ ys) x (suc k, lt, is) = inr (contained ys x (k, omega arith, is))

  contains : (xs : List X) (x : X) → Has xs x → Contains xs x
  contains [] x i = absurd i
  contains (y ∷ ys) x i = ⊎_elim (λ (is : y ≡ x). (0, omega arith, is)) (λ (there : Has ys x). let r = contains ys x there in (suc r.0, omega (arith, r.1), r.2)) i

  pub has_is_contains : HasIsContains X
  has_is_contains xs x = (contains xs x, contained xs x)

  -- an element of the first list
  pub has_front : (xs ys : List X) (x : X) → Has xs x → Has (xs ++ ys) x
  has_front [] ys x i = absurd i
  has_front (z ∷ zs) ys x i = ⊎_elim (λ (is : z ≡ x). inl is) (λ (there : Has zs x). inr (has_front zs ys x there)) i

  -- an element of the second list
  pub has_back : (xs ys : List X) (x : X) → Has ys x → Has (xs ++ ys) x
  has_back [] ys x i = i
  has_back (z ∷ zs) ys x i = inr (has_back zs ys x i)

  -- an element of both together is one of either
  pub has_either : (xs ys : List X) (x : X) → Has (xs ++ ys) x → Has xs x ⊎ Has ys x
  has_either [] ys x i = inr i
  has_either (z ∷ zs) ys x i = ⊎_elim
      (λ (is : z ≡ x). inl (inl is))
      (λ (there : Has (zs ++ ys) x). ⊎_elim (λ (a : Has zs x). inl (inr a)) (λ (b : Has ys x). inr b) (has_either zs ys x there)) i

  pub append_has : AppendHas X
  append_has xs ys x = (has_either xs ys x, λ i. ⊎_elim (λ (a : Has xs x). has_front xs ys x a) (λ (b : Has ys x). has_back xs ys x b) i)

  -- what a filter keeps is in the list
  pub in_filter : (p : X → Bool) (xs : List X) (x : X) → Has (filter p xs) x → Has xs x
  in_filter p [] x i = i
  in_filter p (y ∷ ys) x i =
      let go : (b : Bool) → Has (cond b (y ∷ filter p ys) (filter p ys)) x → (y ≡ x) ⊎ Has ys x = λ b. elim b as (λ b. Has (cond b (y ∷ filter p ys) (filter p ys)) x → (y ≡ x) ⊎ Has ys x) [
        | true ↦ λ h. ⊎_elim (λ (is : y ≡ x). inl is) (λ (there : Has (filter p ys) x). inr (in_filter p ys x there)) h
        | false ↦ λ h. inr (in_filter p ys x h)
      ] in go (p y) i

  -- what a filter keeps passes the test
  pub passes_filter : (p : X → Bool) (xs : List X) (x : X) → Has (filter p xs) x → p x ≡ true
  passes_filter p [] x i = absurd i
  passes_filter p (y ∷ ys) x i =
      let go : (b : Bool) → p y ≡ b → Has (cond b (y ∷ filter p ys) (filter p ys)) x → p x ≡ true = λ b. elim b as (λ b. p y ≡ b → Has (cond b (y ∷ filter p ys) (filter p ys)) x → p x ≡ true) [
        | true ↦ λ is h. ⊎_elim (λ (same : y ≡ x). ap p (sym same) ∙ is) (λ (there : Has (filter p ys) x). passes_filter p ys x there) h
        | false ↦ λ is h. passes_filter p ys x h
      ] in go (p y) refl i

  -- a filter keeps what passes the test
  pub kept_in : (p : X → Bool) (xs : List X) (x : X) → Has xs x → p x ≡ true → Has (filter p xs) x
  kept_in p [] x i t = i
  kept_in p (y ∷ ys) x i t =
      let go : (b : Bool) → p y ≡ b → Has (cond b (y ∷ filter p ys) (filter p ys)) x = λ b. elim b as (λ b. p y ≡ b → Has (cond b (y ∷ filter p ys) (filter p ys)) x) [
        | true ↦ λ is. ⊎_elim (λ (same : y ≡ x). inl same) (λ (there : Has ys x). inr (kept_in p ys x there t)) i
        | false ↦ λ is. ⊎_elim (λ (same : y ≡ x). let f : Path Bool false true = sym is ∙ (ap p same ∙ t) in cc) (λ (there : Has ys x). kept_in p ys x there t) i
      ] in go (p y) refl
