use Rattle.std.proofs.Common.{◌≡◌, ◌≤◌, length}
use Rattle.tcl_parse.specs.Gaps.{skip, comment}
use Rattle.tcl_parse.proofs.gap.after_comment.Given as goal

abbrev pub invariant-loop-rest : goal.invariant-loop-rest
invariant-loop-rest l = record { same : skip comment l.rest ≡ skip comment l.bytes; shorter : length l.rest ≤ length l.bytes }

abbrev pub decreases-loop-rest : goal.decreases-loop-rest
decreases-loop-rest l = length l.rest
