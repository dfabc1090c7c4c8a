-- The laws of a join.
use Rattle.std.proofs.Common.{◌≡◌, ◌≢◌, ◌⊎◌, ◌<◌, ◌≤◌, Bool, true, false, cond, nat_lt, List, [], ◌∷◌, ◌++◌, refl, sym, ap, subst, inl, inr, ⊎_elim, arith}
use Rattle.std.specs.Prelude.{IsPermutation}
use Rattle.std.proofs.lemmas.Bool.{cases_lt}
use Rattle.std.proofs.lemmas.Bool.Decides.{nat_tests}
use Rattle.std.proofs.lemmas.List.Sorted.{IsPermutation-refl, IsPermutation-trans, IsPermutation-cons, IsPermutation-middle}
use Rattle.turn_cell.specs.declared.view.Entry.{Entry}
use Rattle.txt_core.specs.Members.{Has}
use Rattle.turn_cell.specs.History.{Rising}
use Rattle.turn_cell.specs.Passes.{put_in, merged}
use Rattle.turn_cell.specs.Joins.{MergedIsPermutation, MergedHas, MergedRises, RisingIsOne, JoinedSees}

module _ {S C R : Type 0} where
  put_permutes : (e : Entry S C R) (fs : List (Entry S C R)) → IsPermutation (e ∷ fs) (put_in e fs)
  put_permutes e [] = IsPermutation-refl (e ∷ [])
  put_permutes e (f ∷ fs) =
      let ih = put_permutes e fs in
      let P : Bool → Type 0 = λ b. IsPermutation (e ∷ f ∷ fs) (cond b (e ∷ f ∷ fs) (f ∷ put_in e fs)) in
      elim (nat_lt e.place f.place) as P [
        | true ↦ IsPermutation-refl (e ∷ f ∷ fs)
        | false ↦ IsPermutation-trans (e ∷ f ∷ fs) (f ∷ e ∷ fs) (f ∷ put_in e fs) (IsPermutation-middle (e ∷ []) f fs) (IsPermutation-cons f (e ∷ fs) (put_in e fs) ih)
      ]

  pub merged_is_permutation : MergedIsPermutation S C R
  merged_is_permutation [] fs = IsPermutation-refl fs
  merged_is_permutation (e ∷ es) fs = IsPermutation-trans (e ∷ (es ++ fs)) (e ∷ merged es fs) (put_in e (merged es fs))
      (IsPermutation-cons e (es ++ fs) (merged es fs) (merged_is_permutation es fs)) (put_permutes e (merged es fs))

  in_put : (e : Entry S C R) (fs : List (Entry S C R)) (x : Entry S C R) → Has (put_in e fs) x → (e ≡ x) ⊎ Has fs x
  in_put e [] x i = i
  in_put e (f ∷ fs) x i =
      let go : (b : Bool) → Has (cond b (e ∷ f ∷ fs) (f ∷ put_in e fs)) x → (e ≡ x) ⊎ Has (f ∷ fs) x = λ b. elim b as (λ b. Has (cond b (e ∷ f ∷ fs) (f ∷ put_in e fs)) x → (e ≡ x) ⊎ Has (f ∷ fs) x) [
        | true ↦ λ h. h
        | false ↦ λ h. ⊎_elim
            (λ (is : f ≡ x). inr (inl is))
            (λ (there : Has (put_in e fs) x). ⊎_elim (λ (is : e ≡ x). inl is) (λ (k : Has fs x). inr (inr k)) (in_put e fs x there)) h
      ] in go (nat_lt e.place f.place) i

  put_has : (e : Entry S C R) (fs : List (Entry S C R)) (x : Entry S C R) → (e ≡ x) ⊎ Has fs x → Has (put_in e fs) x
  put_has e [] x i = i
  put_has e (f ∷ fs) x i =
      let P : Bool → Type 0 = λ b. Has (cond b (e ∷ f ∷ fs) (f ∷ put_in e fs)) x in
      elim (nat_lt e.place f.place) as P [
        | true ↦ i
        | false ↦ ⊎_elim
            (λ (is : e ≡ x). inr (put_has e fs x (inl is)))
            (λ (k : Has (f ∷ fs) x). ⊎_elim (λ (is : f ≡ x). inl is) (λ (there : Has fs x). inr (put_has e fs x (inr there))) k) i
      ]

  -- an entry of two merged lists is one of either
  pub in_merged : (es fs : List (Entry S C R)) (x : Entry S C R) → Has (merged es fs) x → Has es x ⊎ Has fs x
  in_merged [] fs x i = inr i
  in_merged (e ∷ es) fs x i = ⊎_elim
      (λ (is : e ≡ x). inl (inl is))
      (λ (there : Has (merged es fs) x). ⊎_elim (λ (a : Has es x). inl (inr a)) (λ (b : Has fs x). inr b) (in_merged es fs x there)) (in_put e (merged es fs) x i)

  -- an entry of either list is one of both merged
  pub merged_has_either : (es fs : List (Entry S C R)) (x : Entry S C R) → Has es x ⊎ Has fs x → Has (merged es fs) x
  merged_has_either [] fs x i = ⊎_elim (λ (a : ⊥). absurd a) (λ (b : Has fs x). b) i
  merged_has_either (e ∷ es) fs x i = ⊎_elim
      (λ (a : Has (e ∷ es) x). ⊎_elim
      (λ (is : e ≡ x). put_has e (merged es fs) x (inl is))
      (λ (there : Has es x). put_has e (merged es fs) x (inr (merged_has_either es fs x (inl there)))) a)
      (λ (b : Has fs x). put_has e (merged es fs) x (inr (merged_has_either es fs x (inr b)))) i

  pub merged_has : MergedHas S C R
  merged_has es fs x = (in_merged es fs x, merged_has_either es fs x)

  put_rises : (e : Entry S C R) (fs : List (Entry S C R)) → Rising fs → ((f : Entry S C R) → Has fs f → e.place ≢ f.place) → Rising (put_in e fs)
  put_rises e [] r apart = (λ f i. absurd i, tt)
  put_rises e (f ∷ fs) r apart =
      let P : Bool → Type 0 = λ b. Rising (cond b (e ∷ f ∷ fs) (f ∷ put_in e fs)) in
      let ne : e.place ≢ f.place = apart f (inl refl) in
      ⊎_elim
      (λ (lt : e.place < f.place).
      let t : nat_lt e.place f.place ≡ true = grind (arith, nat_tests) in
      let first : (g : Entry S C R) → Has (f ∷ fs) g → e.place < g.place = λ g i. ⊎_elim
      (λ (is : f ≡ g). let p : f.place ≡ g.place = ap (λ (y : Entry S C R). y.place) is in omega (arith, p, lt))
      (λ (there : Has fs g). let p : f.place < g.place = r.0 g there in omega (arith, p, lt)) i in
      subst P (sym t) (first, r))
      (λ (le : f.place ≤ e.place).
      let t : nat_lt e.place f.place ≡ false = grind (arith, nat_tests) in
      let lt : f.place < e.place = omega (arith, le, ne) in
      let first : (g : Entry S C R) → Has (put_in e fs) g → f.place < g.place = λ g i. ⊎_elim
      (λ (is : e ≡ g). let p : e.place ≡ g.place = ap (λ (y : Entry S C R). y.place) is in omega (arith, p, lt))
      (λ (there : Has fs g). r.0 g there) (in_put e fs g i) in
      subst P (sym t) (first, put_rises e fs r.1 (λ g i. apart g (inr i))))
      (cases_lt e.place f.place)

  pub merged_rises : MergedRises S C R
  merged_rises [] fs r q apart = q
  merged_rises (e ∷ es) fs r q apart = put_rises e (merged es fs) (merged_rises es fs r.1 q (λ g f i j. apart g f (inr i) j))
      (λ f i. ⊎_elim (λ (a : Has es f). let lt = r.0 f a in λ same. omega (arith, lt, same)) (λ (b : Has fs f). apart e f (inl refl) b) (in_merged es fs f i))

  pub rising_is_one : RisingIsOne S C R
  rising_is_one [] [] r q same = refl
  rising_is_one [] (f ∷ fs) r q same = absurd ((same f).1 (inl refl))
  rising_is_one (e ∷ es) [] r q same = absurd ((same e).0 (inl refl))
  rising_is_one (e ∷ es) (f ∷ fs) r q same =
      let place : (x y : Entry S C R) → x ≡ y → x.place ≡ y.place = λ x y is. ap (λ (z : Entry S C R). z.place) is in
      let first : e ≡ f = ⊎_elim (λ (is : f ≡ e). sym is)
      (λ (there : Has fs e). ⊎_elim (λ (is : e ≡ f). is)
      (λ (here : Has es f). let a : f.place < e.place = q.0 e there in let b : e.place < f.place = r.0 f here in absurd (omega (arith, a, b))) ((same f).1 (inl refl))) ((same e).0 (inl refl)) in
      let to : (x : Entry S C R) → Has es x → Has fs x = λ x i. ⊎_elim
      (λ (is : f ≡ x). let a : e.place < x.place = r.0 x i in let b = place f x is in let c = place e f first in absurd (omega (arith, a, b, c)))
      (λ (there : Has fs x). there) ((same x).0 (inr i)) in
      let from : (x : Entry S C R) → Has fs x → Has es x = λ x i. ⊎_elim
      (λ (is : e ≡ x). let a : f.place < x.place = q.0 x i in let b = place e x is in let c = place e f first in absurd (omega (arith, a, b, c)))
      (λ (there : Has es x). there) ((same x).1 (inr i)) in
      let rest : es ≡ fs = rising_is_one es fs r.1 q.1 (λ x. (to x, from x)) in
      λ i. first i ∷ rest i

  pub joined_sees : JoinedSees S C R
  joined_sees v w =
      let P : Bool → Type 0 = λ t. ((cond t w.seen v.seen ≡ v.seen) × (cond t w.low v.low ≡ v.low)) ⊎ ((cond t w.seen v.seen ≡ w.seen) × (cond t w.low v.low ≡ w.low)) in (
        grind (arith, nat_tests),
        grind (arith, nat_tests),
        elim (nat_lt v.seen w.seen) as P [ true ↦ inr (refl, refl) | false ↦ inl (refl, refl) ],
      )
