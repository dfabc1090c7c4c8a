use Rattle.std.proofs.Common.{◌≡◌, ◌-◌, ◌≤◌, length, take, drop, false}
use Rattle.txt_core.specs.Counting.{braced, in_front}
use Rattle.tcl_list.proofs.brace.in_braces.Given as goal

abbrev pub invariant-bytes : goal.invariant-bytes
invariant-bytes l = record {
  same : in_front (take l.at l.bytes) (braced l.nesting.passes l.nesting.braces (drop l.at l.bytes)) ≡ braced false 0 l.bytes;
  room : l.nesting.braces ≤ l.at;
  within : l.at ≤ length l.bytes;
}

abbrev pub decreases-bytes : goal.decreases-bytes
decreases-bytes l = length l.bytes - l.at
