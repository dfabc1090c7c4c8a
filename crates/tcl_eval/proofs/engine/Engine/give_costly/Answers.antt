use Rattle.std.proofs.Common.{◌∙◌}
use Rattle.tcl_eval.specs.Eval.{nested}
use Rattle.tcl_eval.specs.Kept.{run_costly}
use Rattle.tcl_eval.specs.Places.{tree_of, command_at, words_from}
use Rattle.tcl_eval.specs.Stack.{stack_next}
use Rattle.tcl_eval.specs.Engine.{state_of}
use Rattle.tcl_eval.proofs.Steps.{good_code}
use Rattle.tcl_eval.proofs.engine.Engine.give_costly.Goals as goal

pub returns-clause-means : goal.returns-clause-means
returns-clause-means g c = λ ns gv.
    let t = g.H.Host.table in
    let e = c.args.self.now in
    let k = stack_next ns t e.stack.items in
    c.in_ok-step.ensures.means ns gv
    ∙ good_code (λ v. run_costly (nested ns t c.args.levels) (words_from c.args.next (command_at c.args.at (tree_of c.args.script.value))) k) k c.args.value (state_of e) e.budget gv c.if-value-ne-OK.false
