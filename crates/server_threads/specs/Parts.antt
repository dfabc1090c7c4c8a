-- What is said of parts that each ran once.
use Rattle.std.specs.Prelude.{ℕ, List}
use Rattle.std.specs.Fork.{ChangesEach}
use denote.Ref.{MutBor}
use denote.Param.Members.{Shared}

module _ {F T : Type 0} (g : Shared F (ℕ × (MutBor T × Unit {0})) ((Unit {0}) × (MutBor T × Unit {0}))) (f : F) where
  -- Each part is what a call of the job with its place and itself left of it
  pub record RanEach (before after : List T) : Type 0 where
    pub each : ChangesEach g f before after
