use Rattle.std.proofs.Common.{◌∙◌, ap, arith}
use Rattle.std.proofs.lemmas.Result.{IfOk-weaker}
use Rattle.tcl_eval.specs.Eval.{give}
use Rattle.tcl_eval.specs.Stack.{frame_next, stack_next}
use Rattle.tcl_eval.specs.Engine.{state_of}
use Rattle.tcl_eval.specs.declared.stack.Ended.{Ended}
use Rattle.tcl_eval.specs.declared.stack.Frame.TheVariants.{Word}
use Rattle.tcl_eval.proofs.engine.Engine.pass_variable.Goals as goal

pub returns-clause-means : goal.returns-clause-means
returns-clause-means g c =
    let t = g.H.Host.table in
    let e = c.args.self.now in
    IfOk-weaker c.give_piece.result _ _
    (λ step means ns gv. means ns gv
    ∙ ap (λ (v : Ended). give v (frame_next ns t (Word c.args.place c.args.so_far c.args.levels) (stack_next ns t e.stack.items)) (state_of e) e.budget gv) c.in_ok-value.ensures)
    c.give_piece.ensures.means

pub returns-clause-weighs : goal.returns-clause-weighs
returns-clause-weighs g c = IfOk-weaker c.give_piece.result _ _ (λ step falls. omega (arith, falls)) c.give_piece.ensures.falls
