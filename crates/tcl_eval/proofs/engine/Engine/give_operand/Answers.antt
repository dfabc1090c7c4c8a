use Rattle.std.proofs.Common.{◌∙◌, ap}
use Rattle.tcl_eval.specs.Eval.{give, nested}
use Rattle.tcl_eval.specs.Stack.{stack_next}
use Rattle.tcl_eval.specs.Engine.{state_of}
use Rattle.tcl_eval.specs.declared.stack.Ended.{Ended}
use Rattle.tcl_eval.proofs.Evaluations.{operand_gives}
use Rattle.tcl_eval.proofs.engine.Engine.give_operand.Goals as goal

pub returns-clause-means : goal.returns-clause-means
returns-clause-means g c = λ ns gv.
    let t = g.H.Host.table in
    let e = c.args.self.now in
    let top = stack_next ns t e.stack.items in
    ap (λ (v : Ended). give v top (state_of e) e.budget gv) c.in_ok-bracket_word.ensures
    ∙ operand_gives (nested ns t 0) c.args.value.code c.args.value.result top (state_of e) e.budget gv
