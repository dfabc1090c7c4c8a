use Rattle.tcl_eval.specs.Eval.{nested}
use Rattle.tcl_eval.proofs.Evaluations.{both_paid, second_lacks}
use Rattle.tcl_eval.proofs.engine.Engine.evaluate_whole.Goals as goal

pub returns-then-not-pay-2-clause-means : goal.returns-then-not-pay-2-clause-means
returns-then-not-pay-2-clause-means g c = λ ns gv.
    let first = c.if-not-pay.ensures in
    let second = c.if-not-pay-2.ensures in
    second_lacks ns g.H.Host.table c.args.self.now c.pay.new.self c.pay-2.new.self (nested ns g.H.Host.table c.args.levels) c.args.evaluation gv first.0 first.1 second.0 second.1

pub returns-clause-means : goal.returns-clause-means
returns-clause-means g c = λ ns gv.
    let first = c.if-not-pay.ensures in
    let second = c.if-not-pay-2.ensures in
    both_paid ns g.H.Host.table c.args.self.now c.pay.new.self c.pay-2.new.self (nested ns g.H.Host.table c.args.levels) c.args.evaluation gv _ first.0 first.1 second.0 second.1 (c.in_ok-step.ensures.means ns gv)
