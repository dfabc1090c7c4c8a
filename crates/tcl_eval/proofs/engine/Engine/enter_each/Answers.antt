use Rattle.std.proofs.Common.{◌∙◌}
use Rattle.tcl_eval.specs.Engine.{state_of}
use Rattle.tcl_eval.specs.declared.branch.Branch.TheVariants as branch
use Rattle.tcl_eval.specs.declared.stack.Frame.TheVariants.{Branch as Branching}
use Rattle.tcl_eval.proofs.Looping.{ran_pushed}
use Rattle.tcl_eval.proofs.engine.Engine.enter_each.Goals as goal

pub returns-in_ok-step-in-Body-clause-means : goal.returns-in_ok-step-in-Body-clause-means
returns-in_ok-step-in-Body-clause-means g c = λ ns gv.
    let e = c.args.self.now in
    rw c.in-Body.is
    (c.in_ok-step-in-Body.ensures.means ns gv
    ∙ ran_pushed ns g.H.Host.table e.stack.items c.push.new.self.items (Branching (branch.Each c.args.walk c.args.at c.args.left c.args.levels)) c.in-Body.ran (state_of e) e.budget gv c.in_ok-push-in-Body.ensures.items)
