use Rattle.std.proofs.Common.{◌∙◌, arith}
use Rattle.std.proofs.lemmas.Result.{IfOk-weaker}
use Rattle.tcl_eval.specs.Eval.{nested}
use Rattle.tcl_eval.specs.Kept.{run_costly}
use Rattle.tcl_eval.specs.Places.{tree_of, command_at, words_from}
use Rattle.tcl_eval.proofs.engine.Engine.enter_costly.Goals as goal

pub returns-clause-means : goal.returns-clause-means
returns-clause-means g c =
    let t = g.H.Host.table in
    let tree = tree_of c.args.script.value in
    let behind = c.in_ok-push_following.ensures.means in
    IfOk-weaker c.next_costly.result _ _
    (λ step means ns gv. means ns gv
    ∙ behind ns (λ k. run_costly (nested ns t c.args.levels) (words_from c.args.word (command_at c.args.at tree)) k) gv)
    c.next_costly.ensures.means

pub returns-clause-falls : goal.returns-clause-falls
returns-clause-falls g c =
    let more = c.in_ok-push_following.ensures.weighs in
    IfOk-weaker c.next_costly.result _ _ (λ step falls. omega (arith, more, falls)) c.next_costly.ensures.falls

pub returns-clause-keeps : goal.returns-clause-keeps
returns-clause-keeps g c =
    let kept = c.in_ok-push_following.ensures.keeps in
    IfOk-weaker c.next_costly.result _ _ (λ step stays. (omega (arith, kept.0, stays.0), stays.1 ∙ kept.1, omega (arith, kept.2, stays.2))) c.next_costly.ensures.keeps
