use Rattle.std.proofs.Common.{◌≡◌, ◌++◌, take}
use Rattle.txt_core.proofs.words.add_copies.Given as goal

-- the texts so far stand behind those that were there
abbrev pub invariant-texts : goal.invariant-texts
invariant-texts l = l.list ≡ l.initial.list ++ take l.text-index l.texts
