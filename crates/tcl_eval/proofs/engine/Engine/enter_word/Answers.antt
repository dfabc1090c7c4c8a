use Rattle.std.proofs.Common.{ℕ, ◌∙◌, ap, refl, arith, length}
use Rattle.std.proofs.lemmas.Result.{IfOk-weaker}
use Rattle.tcl_parse.specs.Tree.{Parts, Words}
use Rattle.tcl_parse.specs.declared.tree.Script.{Script}
use Rattle.tcl_eval.specs.Eval.{nested}
use Rattle.tcl_eval.specs.Places.{tree_of, word_parts, parts_size, words_size}
use Rattle.tcl_eval.specs.Stack.{stack_next}
use Rattle.tcl_eval.specs.Engine.{state_of}
use Rattle.tcl_eval.specs.declared.stack.Frame.TheVariants.{Command}
use Rattle.tcl_eval.proofs.Alike.{run_script_alike}
use Rattle.tcl_eval.proofs.Steps.{word_step, words_done}
use Rattle.tcl_eval.proofs.engine.Engine.enter_word.Goals as goal

pub returns-then-not-has_word-clause-means : goal.returns-then-not-has_word-clause-means
returns-then-not-has_word-clause-means g c = λ ns gv.
    let t = g.H.Host.table in
    let e = c.args.self.now in
    let none = rw (c.len-word.ensures, c.deref.ensures) at c.if-not-has_word.ensures.there in
    words_done ns t (nested ns t c.args.levels) _ c.args.values _ (stack_next ns t e.stack.items) (state_of e) e.budget gv none c.into_words.ensures

pub returns-clause-means : goal.returns-clause-means
returns-clause-means g c =
    let t = g.H.Host.table in
    let e = c.args.self.now in
    let here = rw (c.len-word.ensures, c.deref.ensures) at c.if-not-has_word.ensures.there in
    let first = c.at_word-place.ensures ∙ ap (λ (n : ℕ). word_parts c.args.at n (tree_of c.in_ok-again.again.value)) c.len-word.ensures ∙ ap (λ (s : Script). word_parts c.args.at (length c.args.values) (tree_of s)) c.in_ok-again.ensures.cases in
    IfOk-weaker c.enter_pieces.result _ _
    (λ step means ns gv. word_step ns t (nested ns t c.args.levels) (run_script_alike ns t c.args.levels) e.stack.items (Command c.args.script c.args.at c.args.values c.args.levels) _ _ _ _ c.args.values (state_of e) e.budget gv _ (λ k. refl) here first (means ns gv))
    c.enter_pieces.ensures.means

pub returns-clause-falls : goal.returns-clause-falls
returns-clause-falls g c =
    let here = rw (c.len-word.ensures, c.deref.ensures) at c.if-not-has_word.ensures.there in
    let first = c.at_word-place.ensures ∙ ap (λ (n : ℕ). word_parts c.args.at n (tree_of c.in_ok-again.again.value)) c.len-word.ensures ∙ ap (λ (s : Script). word_parts c.args.at (length c.args.values) (tree_of s)) c.in_ok-again.ensures.cases in
    IfOk-weaker c.enter_pieces.result _ _
    (λ step weighs. omega (arith, weighs, ap (λ (ws : Words). words_size ws) here, ap (λ (ps : Parts). parts_size ps) first))
    c.enter_pieces.ensures.weighs
