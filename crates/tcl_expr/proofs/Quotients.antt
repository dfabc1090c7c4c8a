-- Division of whole numbers by their signs.
use Rattle.std.proofs.Common.{◌≡◌, ℕ, zero, suc, ◌+◌, ◌-◌, ◌*◌, ◌/◌, ◌%◌, ◌^◌, ◌<◌, ◌≤◌, ◌⊎◌, inl, inr, min, Bool, true, false, not, ℤ, pos, negsuc, neg_ℤ, ◌+ℤ◌, refl, ap, sym, ◌∙◌, arith, FitsSigned}
use Rattle.std.proofs.Common.{to_z, of_z, w64}
use Rattle.std.proofs.lemmas.Int.{ints, to_z-of_z}
use Rattle.std.proofs.lemmas.Nat.{div-add-mod'}
use Rattle.std.proofs.Math.Nat.{mod-eq_of_lt, mod-lt, mod_self, div-eq_of_lt-le, eq-or-lt_of_le}
use Rattle.std.proofs.Math.Bool.{beq}
use Rattle.std.specs.Int.RustNames.{int_lt, int_rem}
use Rattle.std.specs.Int.{int_shr}
use Rattle.tcl_expr.specs.Arithmetic.{quotient, remainder}

ceil_by : (a p : ℕ) → (a % p + 1 ≡ p) ⊎ (a % p + 1 < p) → suc a / p + min 1 (suc a % p) ≡ suc (a / p)
ceil_by a p (inl e) =
    let d = div-add-mod' a p in
    let low : (a / p + 1) * p ≤ suc a = omega (arith, d, e) in
    let high : suc a < (a / p + 1 + 1) * p = omega (arith, d, e) in
    let q : suc a / p ≡ a / p + 1 = div-eq_of_lt-le p low high in
    let r = div-add-mod' (suc a) p in
    omega (arith, d, e, q, r, ap (λ k. k * p) q)
ceil_by a p (inr l) =
    let d = div-add-mod' a p in
    let low : a / p * p ≤ suc a = omega (arith, d, l) in
    let high : suc a < (a / p + 1) * p = omega (arith, d, l) in
    let q : suc a / p ≡ a / p = div-eq_of_lt-le p low high in
    let r = div-add-mod' (suc a) p in
    omega (arith, d, l, q, r, ap (λ k. k * p) q)

-- rounding up behind a whole number is rounding down before the next one
pub ceil_suc : (a p : ℕ) → 0 < p → suc a / p + min 1 (suc a % p) ≡ suc (a / p)
ceil_suc a p l =
    let le : a % p + 1 ≤ p = omega (arith, mod-lt a l) in
    ceil_by a p (eq-or-lt_of_le le)

core_down : (x b : ℕ) → 0 < x → x < suc b → b < 2 ^ 63 → to_z w64 (of_z w64 (to_z w64 (of_z w64 (pos x)) +ℤ to_z w64 (of_z w64 (negsuc b)))) ≡ neg_ℤ (pos (suc b - x))
core_down x b h l f = omega (arith, ints)

core_up : (x b : ℕ) → 0 < x → x < b → b < 2 ^ 63 → to_z w64 (of_z w64 (to_z w64 (of_z w64 (neg_ℤ (pos x))) +ℤ to_z w64 (of_z w64 (pos b)))) ≡ pos (b - x)
core_up x b h l f = omega (arith, ints)

fits_pos : {a : ℕ} → FitsSigned w64 (pos a) → a < 2 ^ 63
fits_pos f = f.sfits

fits_negsuc : {a : ℕ} → FitsSigned w64 (negsuc a) → a < 2 ^ 63
fits_negsuc f = f.sfits

nonzero : (x : ℕ) → (of_z w64 (pos x) ≡ 0 → ⊥) → 0 < x
nonzero zero h = absurd (h refl)
nonzero (suc x) h = omega arith

nonzero_neg : (x : ℕ) → (of_z w64 (neg_ℤ (pos x)) ≡ 0 → ⊥) → 0 < x
nonzero_neg zero h = absurd (h refl)
nonzero_neg (suc x) h = omega arith

not_below : (a : ℕ) → int_lt (pos a) (pos 0) ≡ false
not_below a = grind (arith, ints)

true_false : true ≡ false → ⊥
true_false e = absurd (cc)

differ_up : (p : Bool) → p ≡ false → not (beq p true) ≡ false → ⊥
differ_up false e h = true_false h
differ_up true e h = true_false e

differ_down : (p : Bool) → p ≡ false → not (beq true p) ≡ false → ⊥
differ_down false e h = true_false h
differ_down true e h = true_false e

-- where the signs differ and something is left, the remainder is what is left and the divisor
pub moved : (m n r : ℤ) → FitsSigned w64 m → FitsSigned w64 n → (n ≡ pos 0 → ⊥) → r ≡ int_rem m n → (of_z w64 r ≡ 0 → ⊥) → not (beq (int_lt m (pos 0)) (int_lt n (pos 0))) ≡ true →
    to_z w64 (of_z w64 (to_z w64 (of_z w64 r) +ℤ to_z w64 (of_z w64 n))) ≡ remainder m n
moved (pos a) (pos b) r f g z e k h = absurd (true_false (sym (ap (λ p. not (beq false p)) (sym (not_below b)) ∙ ap (λ p. not (beq p (int_lt (pos b) (pos 0)))) (sym (not_below a)) ∙ h)))
moved (negsuc a) (negsuc b) r f g z e k h = absurd (true_false (sym h))
moved (pos a) (negsuc b) r f g z e k h =
    let x = a % suc b in
    let l : x < suc b = mod-lt a (omega arith) in
    let some : 0 < x = nonzero x (λ w. k (ap (of_z w64) e ∙ w)) in
    let below : (suc b - x) % suc b ≡ suc b - x = mod-eq_of_lt (omega arith) in
    ap (λ s. to_z w64 (of_z w64 (to_z w64 (of_z w64 s) +ℤ to_z w64 (of_z w64 (negsuc b))))) e ∙ core_down x b some l (fits_negsuc g) ∙ ap (λ s. neg_ℤ (pos s)) (sym below)
moved (negsuc a) (pos zero) r f g z e k h = absurd (z refl)
moved (negsuc a) (pos (suc b)) r f g z e k h =
    let x = suc a % suc b in
    let l : x < suc b = mod-lt (suc a) (omega arith) in
    let some : 0 < x = nonzero_neg x (λ w. k (ap (of_z w64) e ∙ w)) in
    let below : (suc b - x) % suc b ≡ suc b - x = mod-eq_of_lt (omega arith) in
    ap (λ s. to_z w64 (of_z w64 (to_z w64 (of_z w64 s) +ℤ to_z w64 (of_z w64 (pos (suc b)))))) e ∙ core_up x (suc b) some l (fits_pos g) ∙ ap pos (sym below)

some_sign : (x : ℕ) → pos x ≡ pos 0 → x ≡ 0
some_sign x e = ap (of_z w64) e

zero_neg : (x : ℕ) → of_z w64 (neg_ℤ (pos x)) ≡ 0 → x < 2 ^ 63 → x ≡ 0
zero_neg zero h l = refl
zero_neg (suc x) h l = omega (arith, h)

pub unmoved_up : (a b : ℕ) → 0 < b → a % b ≡ 0 → (b - a % b) % b ≡ 0
unmoved_up a b l e =
    let d : b - a % b ≡ b = omega (arith, e) in
    ap (λ s. s % b) d ∙ mod_self b

-- where the signs agree or nothing is left, the remainder is what is left
kept_by : (m n r : ℤ) → FitsSigned w64 n → (n ≡ pos 0 → ⊥) → r ≡ int_rem m n → (of_z w64 r ≡ 0) ⊎ (not (beq (int_lt m (pos 0)) (int_lt n (pos 0))) ≡ false) → r ≡ remainder m n
kept_by (pos a) (pos b) r g z e k = e
kept_by (negsuc a) (negsuc b) r g z e k = e
kept_by (pos a) (negsuc b) r g z e (inr k) = absurd (differ_up (int_lt (pos a) (pos 0)) (not_below a) k)
kept_by (pos a) (negsuc b) r g z e (inl k) =
    let x : a % suc b ≡ 0 = ap (of_z w64) (sym e) ∙ k in
    e ∙ ap pos x ∙ ap (λ s. neg_ℤ (pos s)) (sym (unmoved_up a (suc b) (omega arith) x))
kept_by (negsuc a) (pos zero) r g z e k = absurd (z refl)
kept_by (negsuc a) (pos (suc b)) r g z e (inr k) = absurd (differ_down (int_lt (pos (suc b)) (pos 0)) (not_below (suc b)) k)
kept_by (negsuc a) (pos (suc b)) r g z e (inl k) =
    let l : suc a % suc b < suc b = mod-lt (suc a) (omega arith) in
    let f = fits_pos g in
    let x : suc a % suc b ≡ 0 = zero_neg (suc a % suc b) (ap (of_z w64) (sym e) ∙ k) (omega arith) in
    e ∙ ap (λ s. neg_ℤ (pos s)) x ∙ ap pos (sym (unmoved_up (suc a) (suc b) (omega arith) x))

pub kept : (m n r : ℤ) → FitsSigned w64 r → FitsSigned w64 n → (n ≡ pos 0 → ⊥) → r ≡ int_rem m n → (of_z w64 r ≡ 0) ⊎ (not (beq (int_lt m (pos 0)) (int_lt n (pos 0))) ≡ false) → to_z w64 (of_z w64 r) ≡ remainder m n
kept m n r f g z e k = to_z-of_z w64 r f ∙ kept_by m n r g z e k

power : (k : ℕ) → 0 < 2 ^ k
power zero = omega arith
power (suc k) = omega (arith, power k)

by_sign : (m : ℤ) (k : ℕ) → int_shr m k ≡ quotient m (pos (2 ^ k))
by_sign (pos a) k = refl
by_sign (negsuc a) k = ap (λ s. neg_ℤ (pos s)) (sym (ceil_suc a (2 ^ k) (power k)))

-- a shift to the right is a division
pub shifts : (m : ℤ) (k : ℕ) → FitsSigned w64 m → FitsSigned w64 (int_shr m k) → to_z w64 (of_z w64 (int_shr (to_z w64 (of_z w64 m)) k)) ≡ quotient m (pos (2 ^ k))
shifts m k f g = ap (λ x. to_z w64 (of_z w64 (int_shr x k))) (to_z-of_z w64 m f) ∙ to_z-of_z w64 (int_shr m k) g ∙ by_sign m k
