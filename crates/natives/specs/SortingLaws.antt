-- What follows from the definition of sorting: the list in order is sorted, has the same elements,
-- keeps the order of those that tie, and is the only such list.
use Rattle.std.proofs.Common.{◌≡◌, ℕ, zero, suc, ◌<◌, List, [], ◌∷◌, length, get_or, Bool, true, false, cond, refl, sym, ap, ◌∙◌, subst, arith, add-one}
use Rattle.std.specs.Prelude.{not, ◌&&◌, filter}
use Rattle.std.specs.List.{AllByRecursion}
use Rattle.std.specs.List.Sorted.{IsPermutation, IsSortedBy, IsStableBy, ties}
use Rattle.std.specs.Cmp.{IsStrictWeakOrder}
use Rattle.std.proofs.lemmas.List.Sorted.{sorted_far, IsStrictWeakOrder-flip, IsPermutation-refl, IsPermutation-cons, IsPermutation-trans, IsPermutation-middle}
use Rattle.std.proofs.lemmas.List.MinMax.{ranks_by}
use Rattle.std.proofs.lemmas.Cmp.{int_cmp_total}
use Rattle.std.specs.Cmp.Lexicographic.{nat_list_cmp_total}
use Rattle.natives.specs.Checks.{integer}
use Rattle.natives.specs.Sorting.{placed, in_order, sorts_before}

module _ {A : Type 0} (before : A → A → Bool) (order : IsStrictWeakOrder before) where
  -- none of these is before x
  abbrev NoneBefore : A → List A → Type 0
  NoneBefore x ys = AllByRecursion (λ y. before y x ≡ false) ys

  -- none is before one that stands in front of it
  abbrev Rises : List A → Type 0
  Rises [] = Unit {0}
  Rises (x ∷ xs) = NoneBefore x xs × Rises xs

  -- ---- sorted

  none_along : (x y : A) (zs : List A) → before y x ≡ false → NoneBefore y zs → NoneBefore x zs
  none_along x y [] e h = tt
  none_along x y (z ∷ zs) e h = (order.chain z y x h.0 e, none_along x y zs e h.1)

  none_by : (b : Bool) (x y z : A) (zs : List A) → before x y ≡ false → before z y ≡ false → NoneBefore y zs → NoneBefore y (placed before x zs) → NoneBefore y (cond b (z ∷ placed before x zs) (x ∷ z ∷ zs))
  none_by true x y z zs e f h k = (f, k)
  none_by false x y z zs e f h k = (e, (f, h))

  none_placed : (x y : A) (ys : List A) → before x y ≡ false → NoneBefore y ys → NoneBefore y (placed before x ys)
  none_placed x y [] e h = (e, tt)
  none_placed x y (z ∷ zs) e h = none_by (before z x) x y z zs e h.0 h.1 (none_placed x y zs e h.1)

  rises_by : (b : Bool) (x y : A) (ys : List A) → before y x ≡ b → NoneBefore y ys → Rises ys → Rises (placed before x ys) → Rises (cond b (y ∷ placed before x ys) (x ∷ y ∷ ys))
  rises_by true x y ys e h k l = (none_placed x y ys (order.one_way y x e) h, l)
  rises_by false x y ys e h k l = ((e, none_along x y ys e h), (h, k))

  placed_rises : (x : A) (ys : List A) → Rises ys → Rises (placed before x ys)
  placed_rises x [] h = (tt, tt)
  placed_rises x (y ∷ ys) h = rises_by (before y x) x y ys refl h.0 h.1 (placed_rises x ys h.1)

  order_rises : (xs : List A) → Rises (in_order before xs)
  order_rises [] = tt
  order_rises (x ∷ xs) = placed_rises x (in_order before xs) (order_rises xs)

  first_two : (x : A) (xs : List A) (d : A) → NoneBefore x xs → 0 < length xs → before (get_or xs 0 d) x ≡ false
  first_two x [] d h lt = absurd (omega arith)
  first_two x (y ∷ xs) d h lt = h.0

  sorted_at : (xs : List A) (k : ℕ) (d : A) → Rises xs → suc k < length xs → before (get_or xs (suc k) d) (get_or xs k d) ≡ false
  sorted_at [] k d h lt = absurd (omega arith)
  sorted_at (x ∷ xs) zero d h lt = first_two x xs d h.0 (omega arith)
  sorted_at (x ∷ xs) (suc k) d h lt = sorted_at xs k d h.1 (omega arith)

  rises_sorted : (xs : List A) → Rises xs → IsSortedBy before xs
  rises_sorted xs h k d le lt = rw add-one (sorted_at xs k d h (omega arith))

  pub order_is_sorted : (xs : List A) → IsSortedBy before (in_order before xs)
  order_is_sorted xs = rises_sorted (in_order before xs) (order_rises xs)

  -- ---- the same elements

  permutes_by : (b : Bool) (x y : A) (ys : List A) → IsPermutation (x ∷ ys) (placed before x ys) → IsPermutation (x ∷ y ∷ ys) (cond b (y ∷ placed before x ys) (x ∷ y ∷ ys))
  permutes_by true x y ys h =
      IsPermutation-trans (x ∷ y ∷ ys) (y ∷ x ∷ ys) (y ∷ placed before x ys) (IsPermutation-middle (x ∷ []) y ys) (IsPermutation-cons y (x ∷ ys) (placed before x ys) h)
  permutes_by false x y ys h = IsPermutation-refl (x ∷ y ∷ ys)

  placed_permutes : (x : A) (ys : List A) → IsPermutation (x ∷ ys) (placed before x ys)
  placed_permutes x [] = IsPermutation-refl (x ∷ [])
  placed_permutes x (y ∷ ys) = permutes_by (before y x) x y ys (placed_permutes x ys)

  pub order_permutes : (xs : List A) → IsPermutation xs (in_order before xs)
  order_permutes [] = IsPermutation-refl []
  order_permutes (x ∷ xs) =
      IsPermutation-trans (x ∷ xs) (x ∷ in_order before xs) (placed before x (in_order before xs)) (IsPermutation-cons x xs (in_order before xs) (order_permutes xs)) (placed_permutes x (in_order before xs))

  -- ---- those that tie stay in their order

  -- two elements that tie with a third tie
  no_tie : (x y z : A) (p q r s : Bool) → before z x ≡ p → before x z ≡ q → before z y ≡ r → before y z ≡ s → before y x ≡ true → (not p && not q) ≡ true → (not r && not s) ≡ true → ⊥
  no_tie x y z true q r s zx xz zy yz h e f = absurd (cc)
  no_tie x y z false true r s zx xz zy yz h e f = absurd (cc)
  no_tie x y z false false true s zx xz zy yz h e f = absurd (cc)
  no_tie x y z false false false true zx xz zy yz h e f = absurd (cc)
  no_tie x y z false false false false zx xz zy yz h e f = let g = order.chain y z x yz zx in absurd (cc)

  swapped : (x y z : A) (ys more : List A) (p q : Bool) → ties before z x ≡ p → ties before z y ≡ q → before y x ≡ true → more ≡ cond p (x ∷ filter (ties before z) ys) (filter (ties before z) ys) → cond q (y ∷ more) more ≡ cond p (x ∷ cond q (y ∷ filter (ties before z) ys) (filter (ties before z) ys)) (cond q (y ∷ filter (ties before z) ys) (filter (ties before z) ys))
  swapped x y z ys more true true e f h k = absurd (no_tie x y z (before z x) (before x z) (before z y) (before y z) refl refl refl refl h e f)
  swapped x y z ys more true false e f h k = k
  swapped x y z ys more false true e f h k = ap (λ l. y ∷ l) k
  swapped x y z ys more false false e f h k = k

  stable_by : (b : Bool) (x y z : A) (ys : List A) → before y x ≡ b → filter (ties before z) (placed before x ys) ≡ filter (ties before z) (x ∷ ys) → filter (ties before z) (cond b (y ∷ placed before x ys) (x ∷ y ∷ ys)) ≡ filter (ties before z) (x ∷ y ∷ ys)
  stable_by true x y z ys h k = swapped x y z ys (filter (ties before z) (placed before x ys)) (ties before z x) (ties before z y) refl refl h k
  stable_by false x y z ys h k = refl

  placed_stable : (x z : A) (ys : List A) → filter (ties before z) (placed before x ys) ≡ filter (ties before z) (x ∷ ys)
  placed_stable x z [] = refl
  placed_stable x z (y ∷ ys) = stable_by (before y x) x y z ys refl (placed_stable x z ys)

  pub order_is_stable : (xs : List A) → IsStableBy before xs (in_order before xs)
  order_is_stable [] z = refl
  order_is_stable (x ∷ xs) z =
      placed_stable x z (in_order before xs) ∙ ap (λ l. cond (ties before z x) (x ∷ l) l) (order_is_stable xs z)

  -- ---- no other list is so

  far : (x : A) (xs : List A) → ((j : ℕ) (d : A) → j < length xs → before (get_or xs j d) x ≡ false) → NoneBefore x xs
  far x [] h = tt
  far x (y ∷ xs) h = (h 0 x (omega arith), far x xs (λ j d lt. h (suc j) d (omega arith)))

  tail_sorted : (x : A) (xs : List A) → IsSortedBy before (x ∷ xs) → IsSortedBy before xs
  tail_sorted x xs h k d le lt =
      let e : before (get_or xs (suc k) d) (get_or xs k d) ≡ false = subst (λ (i : ℕ). before (get_or (x ∷ xs) i d) (get_or xs k d) ≡ false) (add-one (suc k)) (h (suc k) d (omega arith) (omega arith)) in
      rw add-one e

  sorted_rises : (xs : List A) → IsSortedBy before xs → Rises xs
  sorted_rises [] h = tt
  sorted_rises (x ∷ xs) h =
      (far x xs (λ j d lt. sorted_far before order (x ∷ xs) h 0 (suc j) d (omega arith) (omega arith)), sorted_rises xs (tail_sorted x xs h))

  kept_by : (P : A → Type 0) (p : A → Bool) (y z : A) (zs r : List A) (b : Bool) → cond b (z ∷ filter p zs) (filter p zs) ≡ y ∷ r → P z → (filter p zs ≡ y ∷ r → P y) → P y
  kept_by P p y z zs r true e h k = let same : z ≡ y = cc in subst P same h
  kept_by P p y z zs r false e h k = k e

  -- what holds of each element holds of the first that is kept
  first_kept : (P : A → Type 0) (p : A → Bool) (y : A) (zs r : List A) → filter p zs ≡ y ∷ r → AllByRecursion P zs → P y
  first_kept P p y [] r e h = absurd (cc)
  first_kept P p y (z ∷ zs) r e h = kept_by P p y z zs r (p z) e h.0 (λ f. first_kept P p y zs r f h.1)

  self_by : (x : A) (b : Bool) → before x x ≡ b → b ≡ false
  self_by x true e = let f = order.one_way x x e in absurd (cc)
  self_by x false e = refl

  tie_self : (x : A) → ties before x x ≡ true
  tie_self x = rw (self_by x (before x x) refl) refl

  tie_other : (x y : A) (p q : Bool) → before x y ≡ p → before y x ≡ q → ties before x y ≡ ties before y x
  tie_other x y true true e f = rw (e, f) refl
  tie_other x y true false e f = rw (e, f) refl
  tie_other x y false true e f = rw (e, f) refl
  tie_other x y false false e f = rw (e, f) refl

  -- the first elements of two such lists are one
  heads_by : (y z : A) (ys zs : List A) (b : Bool) → ties before y z ≡ b → NoneBefore y ys → NoneBefore z zs → y ∷ filter (ties before y) ys ≡ cond b (z ∷ filter (ties before y) zs) (filter (ties before y) zs) → cond b (y ∷ filter (ties before z) ys) (filter (ties before z) ys) ≡ z ∷ filter (ties before z) zs → y ≡ z
  heads_by y z ys zs true e h k f g = cc
  heads_by y z ys zs false e h k f g =
      let zy : before y z ≡ false = first_kept (λ x. before x z ≡ false) (ties before y) y zs (filter (ties before y) ys) (sym f) k in
      let yz : before z y ≡ false = first_kept (λ x. before x y ≡ false) (ties before z) z ys (filter (ties before z) zs) g h in
      let tie : ties before y z ≡ true = rw (zy, yz) refl in
      absurd (cc)

  tails_by : (y z : A) (ys zs : List A) (b c : Bool) → b ≡ c → y ≡ z → cond b (y ∷ ys) ys ≡ cond c (z ∷ zs) zs → ys ≡ zs
  tails_by y z ys zs true true e f h = cc
  tails_by y z ys zs true false e f h = absurd (cc)
  tails_by y z ys zs false true e f h = absurd (cc)
  tails_by y z ys zs false false e f h = h

  own_first : (x : A) (xs : List A) → filter (ties before x) (x ∷ xs) ≡ x ∷ filter (ties before x) xs
  own_first x xs = rw (tie_self x) refl

  same_heads : (y z : A) (ys zs : List A) → NoneBefore y ys → NoneBefore z zs → ((x : A) → filter (ties before x) (y ∷ ys) ≡ filter (ties before x) (z ∷ zs)) → y ≡ z
  same_heads y z ys zs h k same =
      let back : ties before z y ≡ ties before y z = tie_other z y (before z y) (before y z) refl refl in
      heads_by y z ys zs (ties before y z) refl h k (sym (own_first y ys) ∙ same y)
      (ap (λ (b : Bool). cond b (y ∷ filter (ties before z) ys) (filter (ties before z) ys)) (sym back) ∙ same z ∙ own_first z zs)

  one_rising : (ys zs : List A) → Rises ys → Rises zs → ((x : A) → filter (ties before x) ys ≡ filter (ties before x) zs) → ys ≡ zs
  one_rising [] [] h k same = refl
  one_rising [] (z ∷ zs) h k same = let e = same z ∙ own_first z zs in absurd (cc)
  one_rising (y ∷ ys) [] h k same = let e = sym (own_first y ys) ∙ same y in absurd (cc)
  one_rising (y ∷ ys) (z ∷ zs) h k same =
      let head : y ≡ z = same_heads y z ys zs h.0 k.0 same in
      let rest : ys ≡ zs = one_rising ys zs h.1 k.1
      (λ x. tails_by y z (filter (ties before x) ys) (filter (ties before x) zs) (ties before x y) (ties before x z) (ap (ties before x) head) head (same x)) in
      cc

  pub only_order : (xs ys : List A) → IsSortedBy before ys → IsStableBy before xs ys → ys ≡ in_order before xs
  only_order xs ys sorted stable =
      one_rising ys (in_order before xs) (sorted_rises ys sorted) (order_rises xs) (λ x. stable x ∙ sym (order_is_stable xs x))

-- the orders that are asked for
pub sorts_by_order : (numbers falls : Bool) → IsStrictWeakOrder (sorts_before numbers falls)
sorts_by_order true false = ranks_by int_cmp_total integer
sorts_by_order true true = IsStrictWeakOrder-flip (sorts_before true false) (ranks_by int_cmp_total integer)
sorts_by_order false false = ranks_by nat_list_cmp_total (λ x. x)
sorts_by_order false true = IsStrictWeakOrder-flip (sorts_before false false) (ranks_by nat_list_cmp_total (λ x. x))
