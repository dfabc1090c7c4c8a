-- A run of digits and letters that a value can begin with can be made one.
use Rattle.std.proofs.Common.{◌≡◌, ℕ, suc, ◌+◌, ◌*◌, ◌^◌, ◌<◌, ◌≤◌, List, [], ◌∷◌, ◌++◌, length, Bool, true, false, Option, None, Some, refl, ap, sym, ◌∙◌, subst, ◌⊎◌, inl, inr, arith, ◌&&◌, append-nil}
use Rattle.std.specs.Prelude.{max, codes, ◌==◌, ◌||◌, nat_le, nat_lt, if◌then◌else◌}
use Rattle.std.specs.List.{list_all}
use Rattle.std.specs.Option.{is_some}
use Rattle.std.proofs.Math.Nat.{eq-or-lt_of_le}
use Rattle.std.proofs.lemmas.Bool.{lt-ltb, ltb-true, eqb-true}
use Rattle.std.proofs.Math.Nat.{pow-suc, pow-zero}
use Rattle.txt_core.specs.Digits.{digit_of, is_digit, value_of}
use Rattle.txt_core.specs.Number.{natural, magnitude, positive, signed, number}
use Rattle.txt_core.specs.Truth.{truth_of_word}
use Rattle.tcl_expr.specs.Runs.{is_word, names_value, one_more, digits_front, shared, word_front, zero_front, value_front}
use Rattle.tcl_expr.proofs.Fronts.{both, regroup, trimmed_plain, all_plain, no_sign, Small}

-- ---- what names a value

or_left : (a b : Bool) → a ≡ true → (a || b) ≡ true
or_left true b e = refl
or_left false b e = absurd (cc)

small_positive : (q : Option ℕ) → Small q → is_some (positive q) ≡ true
small_positive None h = absurd h
small_positive (Some k) h = rw (lt-ltb k (2 ^ 63) h) refl

signed_some : (t : List ℕ) → list_all is_word t ≡ true → Small (magnitude t) → is_some (signed t) ≡ true
signed_some [] all h = absurd h
signed_some (b ∷ t) all h =
    let s = no_sign b (both (is_word b) (list_all is_word t) all).0 in
    rw (s.0, s.1) (small_positive (magnitude (b ∷ t)) h)

number_some : (t : List ℕ) → list_all is_word t ≡ true → Small (magnitude t) → is_some (number t) ≡ true
unfolding number
number_some t all h = subst (λ z. is_some (signed z) ≡ true) (sym (trimmed_plain t (all_plain t all))) (signed_some t all h)

small_named : (t : List ℕ) → list_all is_word t ≡ true → Small (magnitude t) → names_value t ≡ true
small_named t all h = or_left (is_some (number t)) (is_some (truth_of_word t)) (number_some t all h)

-- ---- digits that all go on with a number

next_by : (base n b : ℕ) (t : List ℕ) (d s : Bool) → is_digit base b ≡ d → nat_lt (n * base + digit_of b) (2 ^ 63) ≡ s → one_more (if d && s then Some (n * base + digit_of b) else None) (λ m. digits_front base m t) ≡ suc (length t)
    → (d ≡ true) × (n * base + digit_of b < 2 ^ 63) × (digits_front base (n * base + digit_of b) t ≡ length t)
next_by base n b t true true p q e = (refl, ltb-true (n * base + digit_of b) (2 ^ 63) q, omega (arith, e))
next_by base n b t true false p q e = absurd (omega (arith, e))
next_by base n b t false s p q e = absurd (omega (arith, e))

digits_value : (base n : ℕ) (ds : List ℕ) → n < 2 ^ 63 → digits_front base n ds ≡ length ds → (list_all (is_digit base) ds ≡ true) × (n * base ^ length ds + value_of base ds < 2 ^ 63)
digits_value base n [] lt e = let one : base ^ 0 ≡ 1 = pow-zero base in (refl, rw one (omega (arith, lt)))
digits_value base n (b ∷ t) lt e =
    let s = next_by base n b t (is_digit base b) (nat_lt (n * base + digit_of b) (2 ^ 63)) refl refl e in
    let m = n * base + digit_of b in
    let k = digits_value base m t s.1 s.2 in
    let q = base ^ length t in
    let g = regroup n base q (digit_of b) (value_of base t) in
    let f : n * (q * base) + (digit_of b * q + value_of base t) < 2 ^ 63 = subst (λ z. z < 2 ^ 63) (sym g) k.1 in
    (rw (s.0) k.0, rw pow-suc f)

natural_small : (base b : ℕ) (t : List ℕ) → digits_front base 0 (b ∷ t) ≡ length (b ∷ t) → Small (natural base (b ∷ t))
natural_small base b t e =
    let k = digits_value base 0 (b ∷ t) (omega arith) e in
    let f : value_of base (b ∷ t) < 2 ^ 63 = omega (arith, k.1) in
    rw (k.0) f

-- ---- words of truth

shared_if : (t : Bool) (x n : ℕ) → (if t then suc x else 0) ≡ suc n → (t ≡ true) × (x ≡ n)
shared_if true x n e = (refl, omega (arith, e))
shared_if false x n e = absurd (omega (arith, e))

-- a text that a word shares whole is its front
shared_whole : (w t : List ℕ) → shared w t ≡ length t → (r : List ℕ) × (t ++ r ≡ w)
shared_whole [] [] e = ([], refl)
shared_whole [] (b ∷ t) e = absurd (omega (arith, e))
shared_whole (c ∷ w) [] e = (c ∷ w, refl)
shared_whole (c ∷ w) (b ∷ t) e =
    let s = shared_if (c == b) (shared w t) (length t) e in
    let k = shared_whole w t s.1 in
    let q : c ≡ b = eqb-true c b s.0 in
    (k.0, ap (λ (y : List ℕ). b ∷ y) k.1 ∙ ap (λ x. x ∷ w) (sym q))

max_one : (a b n : ℕ) → max a b ≡ n → (a ≡ n) ⊎ (b ≡ n)
max_one a b n e = by_less (eq-or-lt_of_le (let le : a ≤ n = omega (arith, e) in le))
  where
    by_less : (a ≡ n) ⊎ (a < n) → (a ≡ n) ⊎ (b ≡ n)
    by_less (inl q) = inl q
    by_less (inr lt) = inr (omega (arith, e, lt))

-- bytes that make a run a value
abbrev pub MakesValue : List ℕ → Type 0
MakesValue t = (w : List ℕ) × (list_all is_word (t ++ w) ≡ true) × (names_value (t ++ w) ≡ true)

by_word : (t w : List ℕ) → list_all is_word w ≡ true → names_value w ≡ true → shared w t ≡ length t → MakesValue t
by_word t w all n e = let k = shared_whole w t e in (k.0, subst (λ z. list_all is_word z ≡ true) (sym k.1) all, subst (λ z. names_value z ≡ true) (sym k.1) n)

word_makes : (t : List ℕ) → word_front t ≡ length t → MakesValue t
unfolding number
word_makes t e = six (max_one _ _ (length t) e)
  where
    two : (shared (codes "true") t ≡ length t) ⊎ (shared (codes "yes") t ≡ length t) → MakesValue t
    two (inl q) = by_word t (codes "true") refl refl q
    two (inr q) = by_word t (codes "yes") refl refl q

    three : (max (shared (codes "true") t) (shared (codes "yes") t) ≡ length t) ⊎ (shared (codes "on") t ≡ length t) → MakesValue t
    three (inl q) = two (max_one (shared (codes "true") t) (shared (codes "yes") t) (length t) q)
    three (inr q) = by_word t (codes "on") refl refl q

    four : (max (max (shared (codes "true") t) (shared (codes "yes") t)) (shared (codes "on") t) ≡ length t) ⊎ (shared (codes "false") t ≡ length t) → MakesValue t
    four (inl q) = three (max_one (max (shared (codes "true") t) (shared (codes "yes") t)) (shared (codes "on") t) (length t) q)
    four (inr q) = by_word t (codes "false") refl refl q

    five : (max (max (max (shared (codes "true") t) (shared (codes "yes") t)) (shared (codes "on") t)) (shared (codes "false") t) ≡ length t) ⊎ (shared (codes "no") t ≡ length t) → MakesValue t
    five (inl q) = four (max_one (max (max (shared (codes "true") t) (shared (codes "yes") t)) (shared (codes "on") t)) (shared (codes "false") t) (length t) q)
    five (inr q) = by_word t (codes "no") refl refl q

    six : (max (max (max (max (shared (codes "true") t) (shared (codes "yes") t)) (shared (codes "on") t)) (shared (codes "false") t)) (shared (codes "no") t) ≡ length t) ⊎ (shared (codes "off") t ≡ length t) → MakesValue t
    six (inl q) = five (max_one (max (max (max (shared (codes "true") t) (shared (codes "yes") t)) (shared (codes "on") t)) (shared (codes "false") t)) (shared (codes "no") t) (length t) q)
    six (inr q) = by_word t (codes "off") refl refl q

-- ---- runs

whole_value : (t : List ℕ) → list_all is_word t ≡ true → Small (magnitude t) → MakesValue t
whole_value t all h = ([], subst (λ z. list_all is_word z ≡ true) (sym (append-nil t)) all, subst (λ z. names_value z ≡ true) (sym (append-nil t)) (small_named t all h))

-- `0x` with nothing behind it
hex_makes : (c : ℕ) (d : List ℕ) → list_all is_word (48 ∷ c ∷ d) ≡ true → ((c == 120) || (c == 88)) ≡ true → digits_front 16 0 d ≡ length d → MakesValue (48 ∷ c ∷ d)
hex_makes c [] all x e =
    let v : List ℕ = 48 ∷ c ∷ 48 ∷ [] in
    let w : is_word c ≡ true = (both (is_word c) true (both (is_word 48) (is_word c && true) all).1).0 in
    let a : list_all is_word v ≡ true = rw w refl in
    let h : Small (magnitude v) = rw x (let z : 0 < 2 ^ 63 = omega arith in z) in
    (48 ∷ [], a, small_named v a h)
hex_makes c (d ∷ ds) all x e =
    let h : Small (magnitude (48 ∷ c ∷ d ∷ ds)) = rw x (natural_small 16 d ds e) in
    whole_value (48 ∷ c ∷ d ∷ ds) all h

zero_by : (c : ℕ) (d : List ℕ) (t : Bool) → list_all is_word (48 ∷ c ∷ d) ≡ true → ((c == 120) || (c == 88)) ≡ t → (if t then suc (digits_front 16 0 d) else digits_front 8 0 (c ∷ d)) ≡ length (c ∷ d) → MakesValue (48 ∷ c ∷ d)
zero_by c d true all x e = hex_makes c d all x (omega (arith, e))
zero_by c d false all x e =
    let h : Small (magnitude (48 ∷ c ∷ d)) = rw x (natural_small 8 c d e) in
    whole_value (48 ∷ c ∷ d) all h

zero_makes : (d : List ℕ) → list_all is_word (48 ∷ d) ≡ true → zero_front d ≡ length d → MakesValue (48 ∷ d)
zero_makes [] all e = whole_value (48 ∷ []) all (let z : 0 < 2 ^ 63 = omega arith in z)
zero_makes (c ∷ d) all e = zero_by c d ((c == 120) || (c == 88)) all refl e

decimal_by : (b : ℕ) (t : List ℕ) (s : Bool) → (b == 48) ≡ false → list_all is_word (b ∷ t) ≡ true → (if s then digits_front 10 0 (b ∷ t) else word_front (b ∷ t)) ≡ length (b ∷ t) → MakesValue (b ∷ t)
decimal_by b t true z all e =
    let h : Small (magnitude (b ∷ t)) = rw z (natural_small 10 b t e) in
    whole_value (b ∷ t) all h
decimal_by b t false z all e = word_makes (b ∷ t) e

run_by : (b : ℕ) (t : List ℕ) (s : Bool) → (b == 48) ≡ s → list_all is_word (b ∷ t) ≡ true → (if s then suc (zero_front t) else if nat_le 49 b && nat_le b 57 then digits_front 10 0 (b ∷ t) else word_front (b ∷ t)) ≡ length (b ∷ t) → MakesValue (b ∷ t)
run_by b t true z all e =
    let q : 48 ≡ b = sym (eqb-true b 48 z) in
    subst (λ c. MakesValue (c ∷ t)) q (zero_makes t (subst (λ c. list_all is_word (c ∷ t) ≡ true) (sym q) all) (omega (arith, e)))
run_by b t false z all e = decimal_by b t (nat_le 49 b && nat_le b 57) z all e

-- A run that a value can begin with, as a whole, can be made one.
pub run_makes : (t : List ℕ) → list_all is_word t ≡ true → value_front t ≡ length t → MakesValue t
unfolding number
run_makes [] all e = (48 ∷ [], refl, refl)
run_makes (b ∷ t) all e = run_by b t (b == 48) refl all e
