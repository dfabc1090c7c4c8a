use Rattle.std.proofs.Common.{◌≡◌, ◌++◌, length}
use Rattle.txt_core.specs.Quoting.{with_backslashes}
use Rattle.tcl_list.proofs.writing.put_slashed.Given as goal

abbrev pub invariant-bytes : goal.invariant-bytes
invariant-bytes l = l.out.items ++ with_backslashes l.rest ≡ l.fn.out.items ++ with_backslashes l.text

abbrev pub decreases-bytes : goal.decreases-bytes
decreases-bytes l = length l.rest
