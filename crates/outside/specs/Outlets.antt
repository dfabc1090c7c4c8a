-- The sink of a connection in memory. It keeps what it takes elsewhere, and doesn't tell it.
use Rattle.std.specs.Prelude.{ℕ, ◌≡◌, min, length}
use Rattle.txt_core.specs.Names.{Bytes}
use Rattle.outside.specs.Calls.{Calls, NextFails, after_good, after_fault}
use Rattle.outside.specs.declared.sink.WriteAnswer.{WriteAnswer}
use Rattle.outside.specs.declared.sink.WriteAnswer.TheVariants.{Took, Failed}

-- The sink, as contracts see it.
pub record Outlet : Type 0 where
  -- the most bytes that one call takes
  pub piece : ℕ
  pub calls : Calls

-- What a write does: it takes as many bytes as make a piece, and never where its number is listed; or it fails, also
-- for want of memory.
abbrev pub Passes : Outlet → Bytes → WriteAnswer → Outlet → Type 0
Passes before bytes (Took count) after =
    ¬ (NextFails before.calls) × (count ≡ min before.piece (length bytes)) × (after ≡ record { piece = before.piece; calls = after_good before.calls })
Passes before bytes Failed after = after ≡ record before { calls = after_fault before.calls }
