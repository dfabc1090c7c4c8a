-- Whole numbers without a bound: quotient, remainder and shifts, and which of them 64 bits hold.
-- A number is `pos a`, which is a, or `negsuc a`, which is -(a + 1).
use Rattle.std.specs.Prelude.{ℕ, suc, ◌-◌, ◌/◌, ◌%◌, ◌^◌, ℤ, pos, negsuc, neg_ℤ, ◌*ℤ◌, ◌≤ℤ◌, ◌<ℤ◌}
use Rattle.std.specs.Int.{div_ceil}

-- The quotient, rounded towards minus infinity: that of the magnitudes, rounded down where the signs agree, else rounded up and below 0.
abbrev pub quotient : ℤ → ℤ → ℤ
quotient (pos a) (pos b) = pos (a / b)
quotient (pos a) (negsuc b) = neg_ℤ (pos (div_ceil a (suc b)))
quotient (negsuc a) (pos b) = neg_ℤ (pos (div_ceil (suc a) b))
quotient (negsuc a) (negsuc b) = pos (suc a / suc b)

-- how far a is below a multiple of b
abbrev pub below_multiple : ℕ → ℕ → ℕ
below_multiple a b = (b - a % b) % b

-- The remainder, which has the divisor's sign: how far the first magnitude is above a multiple of the second where the signs agree, else how far below one.
abbrev pub remainder : ℤ → ℤ → ℤ
remainder (pos a) (pos b) = pos (a % b)
remainder (pos a) (negsuc b) = neg_ℤ (pos (below_multiple a (suc b)))
remainder (negsuc a) (pos b) = pos (below_multiple (suc a) b)
remainder (negsuc a) (negsuc b) = neg_ℤ (pos (suc a % suc b))

-- m times 2 to the power of k
abbrev pub shifted_left : ℤ → ℕ → ℤ
shifted_left m k = m *ℤ pos (2 ^ k)

-- m divided by 2 to the power of k, rounded down
abbrev pub shifted_right : ℤ → ℕ → ℤ
shifted_right m k = quotient m (pos (2 ^ k))

-- r is from 0 up to n, or from n, where it is below 0, up to 0, and isn't n
abbrev pub IsBetween : ℤ → ℤ → Type 0
IsBetween r (pos n) = (pos 0 ≤ℤ r) × (r <ℤ pos n)
IsBetween r (negsuc n) = (negsuc n <ℤ r) × (r ≤ℤ pos 0)
