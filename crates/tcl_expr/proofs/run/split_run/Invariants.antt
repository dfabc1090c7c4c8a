use Rattle.std.proofs.Common.{◌≡◌, ◌≤◌, ◌<◌, ◌-◌, ℕ, length, get_or, true}
use Rattle.tcl_expr.specs.Runs.{is_word}
use Rattle.tcl_expr.proofs.run.split_run.Given as goal

abbrev pub invariant-loop-count : goal.invariant-loop-count
invariant-loop-count l = record {
  within : l.count ≤ length l.bytes;
  all : (k : ℕ) → k < l.count → is_word (get_or l.bytes k 0) ≡ true;
}

abbrev pub decreases-loop-count : goal.decreases-loop-count
decreases-loop-count l = length l.bytes - l.count
