use Rattle.std.proofs.Common.{◌≡◌, ◌≤◌, length}
use Rattle.tcl_parse.specs.Gaps.{skip, between}
use Rattle.tcl_parse.proofs.gap.to_command.Given as goal

abbrev pub invariant-loop-rest : goal.invariant-loop-rest
invariant-loop-rest l = record { same : skip between l.rest ≡ skip between l.bytes; shorter : length l.rest ≤ length l.bytes }

abbrev pub decreases-loop-rest : goal.decreases-loop-rest
decreases-loop-rest l = length l.rest
