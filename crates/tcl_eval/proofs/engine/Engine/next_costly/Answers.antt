use Rattle.std.proofs.Common.{◌+◌, ◌∙◌, ap, refl, arith}
use Rattle.std.proofs.lemmas.Result.{IfOk-weaker}
use Rattle.tcl_parse.specs.Tree.{Parts, Words}
use Rattle.tcl_parse.specs.declared.tree.Script.{Script}
use Rattle.tcl_eval.specs.Eval.{nested}
use Rattle.tcl_eval.specs.Places.{tree_of, word_parts, parts_size, words_size}
use Rattle.tcl_eval.specs.Engine.{state_of}
use Rattle.tcl_eval.specs.declared.stack.Frame.TheVariants.{Costly}
use Rattle.tcl_eval.proofs.Alike.{run_script_alike}
use Rattle.tcl_eval.proofs.Steps.{costly_step}
use Rattle.tcl_eval.proofs.engine.Engine.next_costly.Goals as goal

pub returns-clause-means : goal.returns-clause-means
returns-clause-means g c =
    let t = g.H.Host.table in
    let e = c.args.self.now in
    let here = rw c.deref.ensures at c.if-not-has_word.ensures.there in
    let first = c.at_word-place.ensures ∙ ap (λ (s : Script). word_parts c.args.at c.args.word (tree_of s)) c.in_ok-again.ensures.cases in
    IfOk-weaker c.enter_pieces.result _ _
    (λ step means ns gv. costly_step ns t (nested ns t c.args.levels) (run_script_alike ns t c.args.levels) e.stack.items (Costly c.args.script c.args.at (c.args.word + 1) c.args.levels) _ _ _ _ (state_of e) e.budget gv _ (λ k. refl) here first (means ns gv))
    c.enter_pieces.ensures.means

pub returns-clause-falls : goal.returns-clause-falls
returns-clause-falls g c =
    let here = rw c.deref.ensures at c.if-not-has_word.ensures.there in
    let first = c.at_word-place.ensures ∙ ap (λ (s : Script). word_parts c.args.at c.args.word (tree_of s)) c.in_ok-again.ensures.cases in
    IfOk-weaker c.enter_pieces.result _ _
    (λ step weighs. omega (arith, weighs, ap (λ (ws : Words). words_size ws) here, ap (λ (ps : Parts). parts_size ps) first))
    c.enter_pieces.ensures.weighs
