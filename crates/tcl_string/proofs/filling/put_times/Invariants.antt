use Rattle.std.proofs.Common.{◌≡◌, ◌++◌}
use Rattle.std.specs.Prelude.{replicate}
use Rattle.tcl_string.proofs.filling.put_times.Given as goal

abbrev pub invariant-times : goal.invariant-times
invariant-times l = l.out ≡ l.initial.out ++ replicate l.counter l.byte
