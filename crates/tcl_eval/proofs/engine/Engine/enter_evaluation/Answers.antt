use Rattle.std.proofs.Common.{arith}
use Rattle.tcl_eval.specs.Eval.{nested}
use Rattle.tcl_eval.specs.Evaluations.{evaluation_next}
use Rattle.tcl_eval.specs.Places.{tree_of}
use Rattle.tcl_eval.specs.Stack.{stack_next}
use Rattle.tcl_eval.specs.Engine.{state_of}
use Rattle.tcl_eval.proofs.Alike.{run_script_alike}
use Rattle.tcl_eval.proofs.Evaluations.{last_evaluation}
use Rattle.tcl_eval.proofs.engine.Engine.enter_evaluation.Goals as goal

pub returns-then-not-has_command-clause-means : goal.returns-then-not-has_command-clause-means
returns-then-not-has_command-clause-means g c = λ ns gv.
    let t = g.H.Host.table in
    let e = c.args.self.now in
    let last = rw c.deref.ensures at c.if-not-has_command.ensures.there in
    last_evaluation ns t (nested ns t c.args.levels) (run_script_alike ns t c.args.levels) c.args.evaluation (tree_of c.args.script.value) c.args.at (stack_next ns t e.stack.items) (state_of e) e.budget gv last

pub returns-clause-means : goal.returns-clause-means
returns-clause-means g c = λ ns gv.
    c.in_ok-push_following.ensures.means ns (λ k. evaluation_next (nested ns g.H.Host.table c.args.levels) c.args.evaluation k) gv

pub returns-clause-falls : goal.returns-clause-falls
returns-clause-falls g c = omega (arith, c.in_ok-push_following.ensures.weighs)

pub returns-clause-keeps : goal.returns-clause-keeps
returns-clause-keeps g c =
    let kept = c.in_ok-push_following.ensures.keeps in
    (kept.0, kept.1, omega (arith, kept.2))
