-- Places in a target, and its parts.
use Rattle.std.proofs.Common.{◌≡◌, ℕ, ◌≤◌, Bool, true, false, List, length, refl, arith, Some, None}
use Rattle.std.specs.Prelude.{unwrap_or, cond, nat_lt}
use Rattle.std.specs.List.{position, position_or_len}
use Rattle.std.proofs.Common.{not}
use Rattle.std.proofs.lemmas.Bool.Decides.{nat_tests}
use Rattle.std.proofs.lemmas.List.Sums.{prefix_len-le-length}

pub place_within : (p : ℕ → Bool) (xs : List ℕ) → position_or_len p xs ≤ length xs
place_within p xs = prefix_len-le-length (λ x. not (p x)) xs

pub place_is : (p : ℕ → Bool) (xs : List ℕ) → unwrap_or (position p xs) (length xs) ≡ position_or_len p xs
place_is p xs = go (nat_lt (position_or_len p xs) (length xs)) refl
  where
    go : (b : Bool) → nat_lt (position_or_len p xs) (length xs) ≡ b
        → unwrap_or (cond b (Some (position_or_len p xs)) None) (length xs) ≡ position_or_len p xs
    go true is = refl
    go false is = let within = place_within p xs in grind (arith, nat_tests)
