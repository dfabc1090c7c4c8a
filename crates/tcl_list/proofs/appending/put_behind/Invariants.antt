use Rattle.std.proofs.Common.{◌≡◌, ◌++◌, drop}
use Rattle.tcl_list.specs.Appending.{spaced}
use Rattle.tcl_list.proofs.appending.put_behind.Given as goal

-- what is still to be put behind
abbrev pub invariant-words : goal.invariant-words
invariant-words l = l.out.items ++ spaced (drop l.word-index l.words) ≡ l.fn.out.items ++ spaced l.words
