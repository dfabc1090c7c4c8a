use Rattle.std.proofs.Common.{List, ℕ, ◌≤◌, length}
use Rattle.txt_core.specs.Pattern.{Matches}
use Rattle.txt_core.proofs.Starting.{LeftOf}
use Rattle.txt_core.proofs.pattern_start.lengths_of.Given as goal

abbrev pub invariant-parts : goal.invariant-parts
invariant-parts l = record {
  left : (t : List ℕ) → Matches l.pattern t → LeftOf l.rest t l.count;
  within : l.count ≤ l.most;
}

abbrev pub decreases-parts : goal.decreases-parts
decreases-parts l = length l.rest
