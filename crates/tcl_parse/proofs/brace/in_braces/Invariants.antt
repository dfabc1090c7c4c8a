use Rattle.std.proofs.Common.{◌≡◌, ◌≤◌, length, ◌+◌}
use Rattle.txt_core.specs.Counting.{in_front}
use Rattle.tcl_parse.specs.Laws.Braces.{braced, plain}
use Rattle.tcl_parse.proofs.brace.in_braces.Given as goal

abbrev pub invariant-loop-b : goal.invariant-loop-b
invariant-loop-b l = record {
  same : in_front l.text.items (braced plain l.open_now l.rest) ≡ braced plain 0 l.bytes;
  room : l.open_now + length l.rest ≤ length l.bytes;
}

abbrev pub decreases-loop-b : goal.decreases-loop-b
decreases-loop-b l = length l.rest
