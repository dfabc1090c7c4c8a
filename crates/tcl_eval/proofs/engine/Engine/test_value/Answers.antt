use Rattle.std.proofs.Common.{◌∙◌}
use Rattle.tcl_expr.specs.View.{tree_of}
use Rattle.tcl_eval.specs.Eval.{nested}
use Rattle.tcl_eval.specs.Engine.{state_of}
use Rattle.tcl_eval.proofs.Looping.{test_gives}
use Rattle.tcl_eval.proofs.engine.Engine.test_value.Goals as goal

pub returns-in_ok-tested-in-Some-clause-means : goal.returns-in_ok-tested-in-Some-clause-means
returns-in_ok-tested-in-Some-clause-means g c = λ ns levels second first k gv.
    let t = g.H.Host.table in
    let e = c.args.self.now in
    let reads = rw c.in-Good.is at c.reading.ensures in
    let found = rw (c.in-Some.is, c.deref.ensures) at c.in_ok-simple_value-in-Good.ensures in
    c.in_ok-tested-in-Some.ensures.means (nested ns t levels) c.args.condition.now second first k gv
    ∙ test_gives ns t levels c.args.condition.now (tree_of c.in-Good.expr.value) c.in-Some.value first second k (state_of e) e.budget gv reads found
