-- What a net holds.
use Rattle.std.specs.Prelude.{ℕ, Bool, List, Option}
use Rattle.txt_core.specs.Names.{Bytes}

-- A connection still to come: all that its peer sends, and the peer's name.
pub record Guest : Type 0 where
  pub input : Bytes
  pub peer : Bytes

-- A net, as contracts see it.
pub record NetState : Type 0 where
  -- how many faults it has met
  pub faults : ℕ
  -- how many connections it gave; the count stands still where counters stop
  pub given : ℕ
  -- it has told that no connection is left
  pub ended : Bool
  -- the connections still to come, where it tells them
  pub coming : Option (List Guest)
