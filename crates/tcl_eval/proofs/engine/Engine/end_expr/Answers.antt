use Rattle.std.proofs.Common.{◌∙◌, ap}
use Rattle.tcl_eval.specs.Eval.{command_end, give}
use Rattle.tcl_eval.specs.Stack.{stack_next}
use Rattle.tcl_eval.specs.Engine.{state_of}
use Rattle.tcl_eval.specs.declared.stack.Ended.{Ended}
use Rattle.tcl_eval.proofs.Commands.{whole_gives}
use Rattle.tcl_eval.proofs.engine.Engine.end_expr.Goals as goal

pub returns-clause-means : goal.returns-clause-means
returns-clause-means g c = λ ns gv.
    let t = g.H.Host.table in
    let e = c.args.self.now in
    let top = command_end (stack_next ns t e.stack.items) in
    c.in_ok-step.ensures.means ns gv
    ∙ ap (λ (v : Ended). give v top (state_of e) e.budget gv) c.in_ok-ended.ensures
    ∙ whole_gives ns t c.args.value.code c.args.value.result top (state_of e) e.budget gv
