-- A text that is taken whole.
use Rattle.std.proofs.Common.{◌≡◌, ℕ, ◌<◌, ◌≤◌, List, [], length, sym, ap, ◌∙◌, take, drop, min, arith}
use Rattle.std.proofs.lemmas.List.{length-take, take_all, drop_all}

-- fewer bytes were taken than might have been, so none is left
few : (most : ℕ) (bytes taken : List ℕ) → taken ≡ take most bytes → length taken < most → length bytes ≤ most
few most bytes taken is fewer = omega (arith, ap length is ∙ length-take most bytes)

pub all_taken : (most : ℕ) (bytes taken : List ℕ) → taken ≡ take most bytes → length taken < most → taken ≡ bytes
all_taken most bytes taken is fewer = is ∙ take_all most bytes (few most bytes taken is fewer)

pub none_left : (most : ℕ) (bytes taken : List ℕ) → taken ≡ take most bytes → length taken < most → drop most bytes ≡ []
none_left most bytes taken is fewer = drop_all most bytes (few most bytes taken is fewer)
