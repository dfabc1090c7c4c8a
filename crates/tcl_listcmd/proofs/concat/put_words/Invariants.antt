use Rattle.std.proofs.Common.{◌≡◌, map, drop}
use Rattle.txt_core.specs.Number.{trimmed}
use Rattle.tcl_listcmd.specs.Joining.{with_words}
use Rattle.tcl_listcmd.proofs.concat.put_words.Given as goal

-- what the words so far and those that are left come to
abbrev pub invariant-words : goal.invariant-words
invariant-words l = with_words l.joined (map trimmed (drop l.word-index l.words)) ≡ with_words l.initial.joined (map trimmed l.words)
