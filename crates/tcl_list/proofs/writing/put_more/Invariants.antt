use Rattle.std.proofs.Common.{◌≡◌, take}
use Rattle.txt_core.specs.Quoting.{quoting}
use Rattle.tcl_list.proofs.writing.put_more.Given as goal

abbrev pub invariant-words : goal.invariant-words
invariant-words l = l.fn.out.items ≡ quoting (take 1 l.words) → l.out.items ≡ quoting (take l.i l.words)
