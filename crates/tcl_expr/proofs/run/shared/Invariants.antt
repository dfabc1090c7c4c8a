use Rattle.std.proofs.Common.{◌≡◌, ◌≤◌, ◌+◌, length}
use Rattle.tcl_expr.specs.Runs.{shared}
use Rattle.tcl_expr.proofs.run.shared.Given as goal

abbrev pub invariant-bytes : goal.invariant-bytes
invariant-bytes l = record {
  same : l.count + shared l.word_rest l.rest ≡ shared l.word l.run;
  within : l.count + length l.rest ≤ length l.run;
}

abbrev pub decreases-bytes : goal.decreases-bytes
decreases-bytes l = length l.rest
