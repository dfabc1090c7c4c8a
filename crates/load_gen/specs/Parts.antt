-- The file in pieces.
use Rattle.std.specs.Prelude.{ℕ, [], ◌++◌}
use Rattle.txt_core.specs.Names.{Bytes}
use Rattle.load_gen.specs.declared.pieces.Part.{Part}
use Rattle.load_gen.specs.declared.pieces.Part.TheVariants.{Front, Rounds, Nothing}
use Rattle.load_gen.specs.Load.{front, rounds, back}

-- What is still to come of a file: its front; then so many connections, the first of which is the k-th, behind the number that was
-- drawn last; and the events at the end.
abbrev pub still : Part → ℕ → ℕ → ℕ → Bytes
still Front left k x = front ++ rounds left k x ++ back
still Rounds left k x = rounds left k x ++ back
still Nothing left k x = []
