-- What loops over the values of a list need.
use Rattle.std.proofs.Common.{◌≡◌, ◌+◌, ◌-◌, ◌≤◌, ℕ, List, ◌∷◌, arith, subst}
use Rattle.std.specs.List.{All}
use Rattle.std.proofs.lemmas.List.Elements.{All-head}
use Rattle.server_threads.specs.Limits.{most_parts}

-- the first of a list of which all are so
pub first_is : {X : Type 0} (P : X → Type 0) (x : X) (xs ys : List X) → ys ≡ x ∷ xs → All P ys → P x
first_is P x xs ys e h = All-head P x xs (subst (All P) e h)

-- one unit went to one part more
pub units_left : (before after old new left : ℕ) → after ≡ before - 1 → before + old ≡ 65536 → old + left ≤ most_parts → new ≡ old + 1 → after + new ≡ 65536
units_left before after old new left e units few more = omega arith

-- one part more, and one value less
pub still_few : (old new left before : ℕ) → new ≡ old + 1 → left + 1 ≡ before → old + before ≤ most_parts → new + left ≤ most_parts
still_few old new left before more less few = omega arith
