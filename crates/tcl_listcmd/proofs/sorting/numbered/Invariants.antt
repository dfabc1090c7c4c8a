use Rattle.std.proofs.Common.{◌≡◌, take}
use Rattle.tcl_listcmd.proofs.sorting.numbered.Given as goal

-- the copies so far are those of the elements gone over
abbrev pub invariant-elements : goal.invariant-elements
invariant-elements l = l.copies ≡ take l.element-index l.list
