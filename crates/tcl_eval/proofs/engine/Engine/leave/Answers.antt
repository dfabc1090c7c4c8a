use Rattle.std.proofs.Common.{◌∙◌}
use Rattle.tcl_eval.specs.Engine.{state_of}
use Rattle.tcl_eval.proofs.Calls.{call_pushed}
use Rattle.tcl_eval.proofs.engine.Engine.leave.Goals as goal

pub returns-in_ok-step-in_default-clause-means : goal.returns-in_ok-step-in_default-clause-means
returns-in_ok-step-in_default-clause-means g c = λ ns gv.
    let e = c.args.self.now in
    c.in_ok-step-in_default.ensures.means ns gv
    ∙ call_pushed ns g.H.Host.table e.stack.items c.push.new.self.items c.args.ran (state_of e) e.budget gv c.in_ok-push-in_default.ensures.items
