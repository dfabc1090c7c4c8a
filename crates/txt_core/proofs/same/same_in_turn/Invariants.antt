use Rattle.std.proofs.Common.{◌≡◌, length}
use Rattle.std.specs.Prelude.{bytes_eq}
use Rattle.txt_core.proofs.same.same_in_turn.Given as goal

abbrev pub invariant-bytes : goal.invariant-bytes
invariant-bytes l = bytes_eq l.left l.right ≡ bytes_eq l.one l.other

abbrev pub decreases-bytes : goal.decreases-bytes
decreases-bytes l = length l.left
