-- Operands that are a run of digits and letters.
use Rattle.std.specs.Prelude.{ℕ, suc, ◌+◌, ◌*◌, ◌^◌, [], ◌∷◌, take, drop, max, Bool, ◌==◌, ◌&&◌, ◌||◌, nat_le, nat_lt, if◌then◌else◌, Option, None, Some}
use Rattle.std.specs.List.{prefix_len}
use Rattle.std.specs.Option.{is_some}
use Rattle.txt_core.specs.Names.{Bytes}
use Rattle.txt_core.specs.Digits.{digit_of, is_digit}
use Rattle.txt_core.specs.Number.{number}
use Rattle.txt_core.specs.Truth.{truth_of_word, word_true, word_yes, word_on, word_false, word_no, word_off}

-- an ASCII letter or digit
abbrev pub is_word : ℕ → Bool
is_word b = (nat_le 97 b && nat_le b 122) || (nat_le 65 b && nat_le b 90) || (nat_le 48 b && nat_le b 57)

-- the run at the front, which is as long as letters and digits go, and what is left behind it
abbrev pub run_at : Bytes → Bytes × Bytes
run_at t = (take (prefix_len is_word t) t, drop (prefix_len is_word t) t)

-- a run that is a number or one of the six words of truth
abbrev pub names_value : Bytes → Bool
names_value r = is_some (number r) || is_some (truth_of_word r)

-- a number with one more digit, where it is one of 64 bits
abbrev pub next_value : ℕ → ℕ → ℕ → Option ℕ
next_value base n b = if is_digit base b && nat_lt (n * base + digit_of b) (2 ^ 63) then Some (n * base + digit_of b) else None

-- one more byte, and then what follows it, where there is a number to go on with
abbrev pub one_more : Option ℕ → (ℕ → ℕ) → ℕ
one_more None follow = 0
one_more (Some n) follow = suc (follow n)

-- how many digits at the front go on with a number, to one of 64 bits
abbrev pub digits_front : ℕ → ℕ → Bytes → ℕ
digits_front base n [] = 0
digits_front base n (b ∷ t) = one_more (next_value base n b) (λ m. digits_front base m t)

-- how many bytes two texts share at their fronts
abbrev pub shared : Bytes → Bytes → ℕ
shared [] r = 0
shared (c ∷ w) [] = 0
shared (c ∷ w) (b ∷ r) = if c == b then suc (shared w r) else 0

-- how many bytes at the front a word of truth can begin with
abbrev pub word_front : Bytes → ℕ
word_front r = max (max (max (max (max (shared word_true r) (shared word_yes r)) (shared word_on r)) (shared word_false r)) (shared word_no r)) (shared word_off r)

-- the same of a number, behind its leading 0
abbrev pub zero_front : Bytes → ℕ
zero_front [] = 0
zero_front (b ∷ t) = if (b == 120) || (b == 88) then suc (digits_front 16 0 t) else digits_front 8 0 (b ∷ t)

-- How many bytes at the front of a run a number or a word of truth can begin with: a run that is neither can go on up to there, and not past it.
abbrev pub value_front : Bytes → ℕ
value_front [] = 0
value_front (b ∷ t) =
    if b == 48 then suc (zero_front t)
    else if nat_le 49 b && nat_le b 57 then digits_front 10 0 (b ∷ t)
    else word_front (b ∷ t)
