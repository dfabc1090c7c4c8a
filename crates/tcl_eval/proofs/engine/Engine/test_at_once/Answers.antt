use Rattle.std.proofs.Common.{◌∙◌, cond, refl}
use Rattle.tcl_expr.specs.View.{tree_of}
use Rattle.tcl_eval.specs.Engine.{state_of}
use Rattle.tcl_eval.proofs.Looping.{paid_one, test_holds}
use Rattle.tcl_eval.proofs.engine.Engine.test_at_once.Goals as goal

pub returns-else-not-pay-clause-means : goal.returns-else-not-pay-clause-means
returns-else-not-pay-clause-means g c = λ ns levels second first k gv.
    let t = g.H.Host.table in
    let old = c.args.self.now in
    let paid = c.if-not-pay.ensures in
    let reads = rw c.in-Good.is at c.reading.ensures in
    let has = rw c.deref.ensures at c.in_ok-holds-in-Good.ensures in
    let holds = c.in_ok-holds-in-Good.holds in
    paid_one old c.pay.new.self _ (cond holds first second) gv _ refl paid.0 paid.1 refl
    ∙ test_holds ns t levels c.args.condition.now (tree_of c.in-Good.expr.value) holds first second k (state_of old) old.budget gv reads has
