use Rattle.std.proofs.Common.{◌≡◌, ◌+◌, drop}
use Rattle.tcl_expr.specs.Runs.{digits_front}
use Rattle.tcl_expr.proofs.run.digits_front.Given as goal

abbrev pub invariant-digits : goal.invariant-digits
invariant-digits l = record {
  same : l.count + digits_front l.base l.value (drop l.byte-index l.digits) ≡ digits_front l.base 0 l.digits;
  counts : l.count ≡ l.byte-index;
}
