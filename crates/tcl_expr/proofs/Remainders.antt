-- The quotient and the remainder make the number that was divided.
use Rattle.std.proofs.Common.{◌≡◌, ℕ, zero, suc, ◌+◌, ◌-◌, ◌*◌, ◌/◌, ◌%◌, ◌<◌, ℤ, pos, negsuc, neg_ℤ, ◌+ℤ◌, ◌*ℤ◌, refl, ap, sym, arith}
use Rattle.std.specs.Int.{div_ceil}
use Rattle.std.proofs.lemmas.Int.{ints}
use Rattle.std.proofs.Math.Nat.{mod-eq_of_lt, mod-lt, div-add-mod}
use Rattle.tcl_expr.specs.Arithmetic.{quotient, remainder, below_multiple, IsBetween}
use Rattle.tcl_expr.proofs.Quotients.{unmoved_up}

abbrev Up : ℕ → ℕ → Type 0
Up a p = (p * div_ceil a p ≡ a + below_multiple a p) × (below_multiple a p < p)

up_by : (a p x : ℕ) → 0 < p → a % p ≡ x → Up a p
up_by a p zero l e =
    let d = div-add-mod a p in
    let c : div_ceil a p ≡ a / p = omega (arith, e) in
    let r : below_multiple a p ≡ 0 = unmoved_up a p l e in
    (omega (arith, d, e, r, ap (λ k. p * k) c), omega (arith, r, l))
up_by a p (suc x) l e =
    let d = div-add-mod a p in
    let m = mod-lt a l in
    let c : div_ceil a p ≡ a / p + 1 = omega (arith, e) in
    let r : below_multiple a p ≡ p - a % p = mod-eq_of_lt (omega (arith, e, l)) in
    (omega (arith, d, e, m, r, ap (λ k. p * k) c), omega (arith, r, e, l))

up : (a p : ℕ) → 0 < p → Up a p
up a p l = up_by a p (a % p) l refl

down_down : (a b c r : ℕ) → suc b * c ≡ a + r → pos a ≡ negsuc b *ℤ neg_ℤ (pos c) +ℤ neg_ℤ (pos r)
down_down a b zero r e = omega (arith, ints, e)
down_down a b (suc c) r e = omega (arith, ints, e)

up_down : (a b c r : ℕ) → b * c ≡ suc a + r → negsuc a ≡ pos b *ℤ neg_ℤ (pos c) +ℤ pos r
up_down a b zero r e = absurd (omega (arith, e))
up_down a b (suc c) r e = omega (arith, ints, e)

down_up : (a b c r : ℕ) → suc b * c + r ≡ suc a → negsuc a ≡ negsuc b *ℤ pos c +ℤ neg_ℤ (pos r)
down_up a b c r e = omega (arith, ints, e)

pub made : (m n : ℤ) → (n ≡ pos 0 → ⊥) → m ≡ n *ℤ quotient m n +ℤ remainder m n
made (pos a) (pos b) z = ap pos (sym (div-add-mod a b))
made (pos a) (negsuc b) z = let u = up a (suc b) (omega arith) in down_down a b (div_ceil a (suc b)) (below_multiple a (suc b)) u.0
made (negsuc a) (pos zero) z = absurd (z refl)
made (negsuc a) (pos (suc b)) z = let u = up (suc a) (suc b) (omega arith) in up_down a (suc b) (div_ceil (suc a) (suc b)) (below_multiple (suc a) (suc b)) u.0
made (negsuc a) (negsuc b) z = down_up a b (suc a / suc b) (suc a % suc b) (div-add-mod (suc a) (suc b))

below_pos : (r b : ℕ) → r < b → IsBetween (pos r) (pos b)
below_pos r b h = (omega (arith, ints, h), omega (arith, ints, h))

above_neg : (r b : ℕ) → r < suc b → IsBetween (neg_ℤ (pos r)) (negsuc b)
above_neg r b h = (omega (arith, ints, h), omega (arith, ints, h))

pub between : (m n : ℤ) → (n ≡ pos 0 → ⊥) → IsBetween (remainder m n) n
between (pos a) (pos zero) z = absurd (z refl)
between (pos a) (pos (suc b)) z = below_pos (a % suc b) (suc b) (mod-lt a (omega arith))
between (pos a) (negsuc b) z = above_neg (below_multiple a (suc b)) b (up a (suc b) (omega arith)).1
between (negsuc a) (pos zero) z = absurd (z refl)
between (negsuc a) (pos (suc b)) z = below_pos (below_multiple (suc a) (suc b)) (suc b) (up (suc a) (suc b) (omega arith)).1
between (negsuc a) (negsuc b) z = above_neg (suc a % suc b) b (mod-lt (suc a) (omega arith))
