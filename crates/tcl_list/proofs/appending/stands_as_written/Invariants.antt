use Rattle.std.proofs.Common.{length}
use Rattle.txt_core.specs.Knowing.{IsWrittenList}
use Rattle.tcl_list.proofs.appending.stands_as_written.Given as goal

-- with the elements that are already read in front of it, what is left is the whole
abbrev pub invariant-elements : goal.invariant-elements
invariant-elements l = IsWrittenList l.rest → IsWrittenList l.bytes

abbrev pub decreases-elements : goal.decreases-elements
decreases-elements l = length l.rest
