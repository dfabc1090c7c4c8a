-- What a clock tells.
use Rattle.std.specs.Prelude.{ℕ, ◌≡◌, ◌+◌, ◌≤◌, min, Option, Some}
use Rattle.txt_core.specs.Names.{Moment}
use Rattle.txt_core.specs.Limits.{last_moment}

-- What a clock that tells holds: the moment that it shows next, in seconds since 1970, and how many each reading adds.
pub record Dial : Type 0 where
  pub moment : Moment
  pub stride : ℕ

-- The dial after a reading. It stops at the last moment.
abbrev pub read_dial : Dial → Dial
read_dial dial = record { moment = min (dial.moment + dial.stride) last_moment; stride = dial.stride }

-- A reading gives the moment held, where it is told, which is at most the last one, and adds the stride.
abbrev pub Shows : Option Dial → Moment → Option Dial → Type 0
Shows before moment after = (dial : Dial) → before ≡ Some dial → (moment ≡ dial.moment) × (moment ≤ last_moment) × (after ≡ Some (read_dial dial))
