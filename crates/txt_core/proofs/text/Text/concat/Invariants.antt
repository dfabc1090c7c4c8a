use Rattle.std.proofs.Common.{◌≡◌, take}
use Rattle.std.specs.List.{concat}
use Rattle.txt_core.proofs.text.Text.concat.Given as goal

abbrev pub invariant-texts : goal.invariant-texts
invariant-texts l = l.whole ≡ concat (take l.text-index l.texts)
