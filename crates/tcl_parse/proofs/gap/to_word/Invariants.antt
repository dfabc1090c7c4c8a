use Rattle.std.proofs.Common.{◌≡◌, ◌≤◌, length, false}
use Rattle.tcl_parse.specs.Gaps.{skip_blanks}
use Rattle.tcl_parse.proofs.gap.to_word.Given as goal

abbrev pub invariant-loop-rest : goal.invariant-loop-rest
invariant-loop-rest l = record { same : skip_blanks false l.rest ≡ skip_blanks false l.bytes; shorter : length l.rest ≤ length l.bytes }

abbrev pub decreases-loop-rest : goal.decreases-loop-rest
decreases-loop-rest l = length l.rest
