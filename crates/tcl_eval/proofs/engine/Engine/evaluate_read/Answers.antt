use Rattle.std.proofs.Common.{refl}
use Rattle.tcl_expr.specs.Outcome.{tree}
use Rattle.tcl_expr.specs.View.{tree_of}
use Rattle.tcl_eval.specs.Eval.{nested}
use Rattle.tcl_eval.proofs.Expressions.{bad_step, evaluated}
use Rattle.tcl_eval.proofs.engine.Engine.evaluate_read.Goals as goal

pub returns-in_ok-error-in-Bad-clause-means : goal.returns-in_ok-error-in-Bad-clause-means
returns-in_ok-error-in-Bad-clause-means g c = λ ns opened gv.
    let paid = c.if-not-pay.ensures in
    let bad = rw c.in-Bad.is at c.reading.ensures in
    bad_step ns g.H.Host.table c.args.self.now c.pay.new.self (nested ns g.H.Host.table c.args.levels) _ c.in-Bad.at bad.0 c.args.text.now c.in_ok-message-in-Bad.message c.in_ok-error-in-Bad.field-0 gv refl paid.0 paid.1 bad.1 bad.2 c.in_ok-message-in-Bad.ensures c.in_ok-error-in-Bad.ensures

pub returns-in_ok-ended-in-Good-clause-means : goal.returns-in_ok-ended-in-Good-clause-means
returns-in_ok-ended-in-Good-clause-means g c = λ ns opened gv.
    let paid = c.if-not-pay.ensures in
    let reads = rw c.in-Good.is at c.reading.ensures in
    evaluated ns g.H.Host.table (nested ns g.H.Host.table c.args.levels) c.args.self.now c.pay.new.self _ c.args.text.now (tree (tree_of c.in-Good.expr.value)) gv _ refl paid.0 paid.1 reads (c.in_ok-ended-in-Good.ensures.means ns gv)
