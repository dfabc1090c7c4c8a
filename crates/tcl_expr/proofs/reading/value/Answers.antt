use Rattle.std.proofs.Common.{◌≡◌, true, arith}
use Rattle.tcl_expr.specs.Runs.{names_value}
use Rattle.tcl_expr.proofs.Closing.{named_some}
use Rattle.tcl_expr.proofs.reading.value.Goals as goal

pub returns-clause-goes : goal.returns-clause-goes
returns-clause-goes c =
    let named : names_value c.split_run.result.0.now ≡ true = rw c.names_value.ensures at c.if-not-names_value.false in
    omega (arith, c.skip.ensures.shorter, c.split_run.ensures.whole, named_some c.split_run.result.0.now named)
