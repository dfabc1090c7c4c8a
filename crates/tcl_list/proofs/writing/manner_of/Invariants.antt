use Rattle.std.proofs.Common.{◌≡◌, ◌+◌, ◌≤◌, ◌&&◌, length, false}
use Rattle.txt_core.specs.Counting.{balances}
use Rattle.txt_core.specs.Quoting.{is_plain, none_special}
use Rattle.tcl_list.proofs.writing.manner_of.Given as goal

abbrev pub invariant-bytes : goal.invariant-bytes
invariant-bytes l = record {
  plain : (l.plain && none_special l.rest) ≡ is_plain l.text;
  same : balances l.nesting.passes l.nesting.braces l.rest ≡ balances false 0 l.text;
  room : l.nesting.braces + length l.rest ≤ length l.text;
}

abbrev pub decreases-bytes : goal.decreases-bytes
decreases-bytes l = length l.rest
