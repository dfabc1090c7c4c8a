use Rattle.std.proofs.Common.{◌≡◌, drop}
use Rattle.natives.specs.Sorting.{numbers_error}
use Rattle.tcl_listcmd.proofs.sorting.check_numbers.Given as goal

-- the error of all elements is that of those that are left
abbrev pub invariant-elements : goal.invariant-elements
invariant-elements l = numbers_error (drop l.element-index l.list) ≡ numbers_error l.list
