use Rattle.std.proofs.Common.{◌∙◌, arith, length}
use Rattle.std.proofs.lemmas.Result.{IfOk-weaker}
use Rattle.tcl_eval.specs.Eval.{nested, run_words}
use Rattle.tcl_eval.specs.Places.{tree_of, command_at, words_from}
use Rattle.tcl_eval.specs.Stack.{stack_next}
use Rattle.tcl_eval.specs.Engine.{state_of}
use Rattle.tcl_eval.proofs.Alike.{run_script_alike}
use Rattle.tcl_eval.proofs.Commands.{last_behind}
use Rattle.tcl_eval.proofs.engine.Engine.enter_command.Goals as goal

pub returns-then-not-has_command-clause-means : goal.returns-then-not-has_command-clause-means
returns-then-not-has_command-clause-means g c =
    let t = g.H.Host.table in
    let e = c.args.self.now in
    let tree = tree_of c.args.script.value in
    let last = rw c.deref.ensures at c.if-not-has_command.ensures.there in
    IfOk-weaker c.enter_word.result _ _
    (λ step means ns gv. means ns gv
    ∙ last_behind ns t (nested ns t c.args.levels) (run_script_alike ns t c.args.levels) tree c.args.at (words_from (length c.args.values) (command_at c.args.at tree)) c.args.values (stack_next ns t e.stack.items) (state_of e) e.budget gv last)
    c.enter_word.ensures.means

pub returns-clause-means : goal.returns-clause-means
returns-clause-means g c =
    let t = g.H.Host.table in
    let tree = tree_of c.args.script.value in
    let behind = c.in_ok-push_following.ensures.means in
    IfOk-weaker c.enter_word-2.result _ _
    (λ step means ns gv. means ns gv
    ∙ behind ns (λ k. run_words ns t (nested ns t c.args.levels) (words_from (length c.args.values) (command_at c.args.at tree)) c.args.values k) gv)
    c.enter_word-2.ensures.means

pub returns-clause-falls : goal.returns-clause-falls
returns-clause-falls g c =
    let more = c.in_ok-push_following.ensures.weighs in
    IfOk-weaker c.enter_word-2.result _ _ (λ step falls. omega (arith, more, falls)) c.enter_word-2.ensures.falls

pub returns-clause-keeps : goal.returns-clause-keeps
returns-clause-keeps g c =
    let kept = c.in_ok-push_following.ensures.keeps in
    IfOk-weaker c.enter_word-2.result _ _ (λ step stays. (omega (arith, kept.0, stays.0), stays.1 ∙ kept.1, omega (arith, kept.2, stays.2))) c.enter_word-2.ensures.keeps
