use Rattle.std.proofs.Common.{◌≡◌, take}
use Rattle.txt_core.proofs.words.copied_pairs.Given as goal

-- the pairs so far are copied
abbrev pub invariant-pairs : goal.invariant-pairs
invariant-pairs l = l.copy ≡ take l.first-index l.first-items
