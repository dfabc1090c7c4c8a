use Rattle.std.proofs.Common.{◌≡◌, ◌++◌, drop}
use Rattle.natives.specs.Cutting.{pieces}
use Rattle.tcl_string.specs.Sets.{set_has}
use Rattle.tcl_string.proofs.Pieces.{glue}
use Rattle.tcl_string.proofs.cutting.pieces.Given as goal

-- the words so far, and the piece in front of what comes, are all pieces
abbrev pub invariant-loop-byte : goal.invariant-loop-byte
invariant-loop-byte l = pieces (set_has l.cuts.holds) l.bytes ≡ l.words ++ glue l.piece.items (pieces (set_has l.cuts.holds) (drop l.byte-index l.bytes))
