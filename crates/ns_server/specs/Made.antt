-- The file of a load as it is read.
use Rattle.std.specs.Prelude.{ℕ}
use Rattle.txt_core.specs.Names.{Bytes}

-- what is at hand, what is made behind it, and how many faults there were
pub record Made : Type 0 where
  pub at_hand : Bytes
  pub behind : Bytes
  pub faults : ℕ
