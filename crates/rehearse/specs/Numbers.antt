-- What the reading of a number finds.
use Rattle.std.specs.Prelude.{ℕ, ◌<◌, Option, MatchOption}

-- A value that is as a rule says, or none exactly where no value is so.
abbrev pub Finds : {A : Type 0} → (A → Type 0) → Option A → Type 0
Finds {A = A} IsRight found = MatchOption found ((x : A) → ¬ (IsRight x)) IsRight

-- a number of at most 12 digits
abbrev pub IsSmall : ℕ → Type 0
IsSmall n = n < 1000000000000
