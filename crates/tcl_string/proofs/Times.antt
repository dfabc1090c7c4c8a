-- A text a number of times.
use Rattle.std.proofs.Common.{◌≡◌, ◌∙◌, ap, ℕ, zero, suc, ◌+◌, ◌*◌, List, length, arith, length-append, true}
use Rattle.std.specs.Prelude.{nat_lt}
use Rattle.std.specs.List.{repeat}
use Rattle.txt_core.specs.Limits.{is_long}

-- how many bytes it has
length-repeat : (n : ℕ) (xs : List ℕ) → length (repeat n xs) ≡ n * length xs
length-repeat zero xs = omega arith
length-repeat (suc n) xs = length-append xs (repeat n xs) ∙ ap (λ (k : ℕ). length xs + k) (length-repeat n xs) ∙ omega arith

pub repeat_long : (n : ℕ) (xs : List ℕ) → nat_lt 1048576 (n * length xs) ≡ true → is_long (repeat n xs) ≡ true
repeat_long n xs much = rw (length-repeat n xs) much
