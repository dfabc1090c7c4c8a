-- The next due moment.
use Rattle.std.proofs.Common.{◌≡◌, ℕ, ◌+◌, ◌-◌, ◌*◌, ◌/◌, ◌%◌, ◌<◌, ◌≤◌, refl, ⊎_elim, arith}
use Rattle.std.proofs.Math.Nat.{mul-le-mul_left}
use Rattle.std.proofs.lemmas.Bool.{cases_lt}
use Rattle.sched_core.specs.Due.{IsNext}

-- a moment in step after now isn't before the one that follows q whole times
follows : (due n q r now k : ℕ) → now ≡ due + (n * q + r) → now < due + k * n → due + (q + 1) * n ≤ due + k * n
follows due n q r now k is lt = ⊎_elim
    (λ (below : k < q + 1). let h : n * k ≤ n * q = mul-le-mul_left n (omega arith) in absurd (omega (arith, h)))
    (λ (above : q + 1 ≤ k). let h : n * (q + 1) ≤ n * k = mul-le-mul_left n above in omega (arith, h)) (cases_lt k (q + 1))

pub is_next : (due n q r now next : ℕ) → now ≡ due + (n * q + r) → r < n → next ≡ due + (q + 1) * n → IsNext now due n next
is_next due n q r now next is lt at = record {
  later = omega arith;
  in_step = (q + 1, at);
  least = λ m after (k, m_is). let f = follows due n q r now k is (omega arith) in omega (arith, f);
}

pub one_next : (now due n a b : ℕ) → IsNext now due n a → IsNext now due n b → a ≡ b
one_next now due n a b x y = let p = x.least b y.later y.in_step in let q = y.least a x.later x.in_step in omega arith

-- the next due moment comes at most so many seconds after now
pub at_most : (now due n next : ℕ) → due ≤ now → 1 ≤ n → IsNext now due n next → next ≤ now + n
at_most now due n next le pos is =
    let m = is_next due n ((now - due) / n) ((now - due) % n) now (due + ((now - due) / n + 1) * n) (omega arith) (omega arith) refl in
    let same = one_next now due n next (due + ((now - due) / n + 1) * n) is m in
    omega arith
