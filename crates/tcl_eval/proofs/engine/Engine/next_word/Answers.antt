use Rattle.std.proofs.Common.{ℕ, ap, arith, ◌∙◌}
use Rattle.std.proofs.lemmas.Result.{IfOk-weaker}
use Rattle.natives.specs.Names.{names_of}
use Rattle.tcl_parse.specs.Tree.{Words}
use Rattle.tcl_eval.specs.Eval.{nested}
use Rattle.tcl_eval.specs.Kept.{run_costly}
use Rattle.tcl_eval.specs.Places.{tree_of, command_at, words_from, words_size}
use Rattle.tcl_eval.specs.Stack.{stack_next}
use Rattle.tcl_eval.specs.Engine.{state_of}
use Rattle.tcl_eval.proofs.engine.Engine.next_word.Goals as goal

pub returns-in-All-clause-means : goal.returns-in-All-clause-means
returns-in-All-clause-means g c =
    let ns = names_of c.args.natives.now in
    let before = rw (c.in-All.is, c.words_of.ensures, c.deref.ensures) at c.in_ok-passed.ensures.means in
    IfOk-weaker c.try_words.result _ _ (λ step means gv. means gv ∙ before ns c.args.levels (stack_next ns g.H.Host.table c.args.self.now.stack.items) gv) c.try_words.ensures.means

pub returns-in-All-clause-falls : goal.returns-in-All-clause-falls
returns-in-All-clause-falls g c =
    let none = rw (c.in-All.is, c.words_of.ensures, c.deref.ensures) at c.in_ok-passed.ensures.less in
    IfOk-weaker c.try_words.result _ _ (λ step falls. omega (arith, ap (λ (ws : Words). words_size ws) none, falls)) c.try_words.ensures.falls

pub returns-in-Ends-clause-means : goal.returns-in-Ends-clause-means
returns-in-Ends-clause-means g c = λ gv.
    let ns = names_of c.args.natives.now in
    let before = rw (c.in-Ends.is, c.words_of.ensures, c.deref.ensures) at c.in_ok-passed.ensures.means in
    before ns c.args.levels (stack_next ns g.H.Host.table c.args.self.now.stack.items) gv

pub returns-in-Spent-clause-means : goal.returns-in-Spent-clause-means
returns-in-Spent-clause-means g c = λ gv.
    let ns = names_of c.args.natives.now in
    let before = rw (c.in-Spent.is, c.words_of.ensures, c.deref.ensures) at c.in_ok-passed.ensures.means in
    before ns c.args.levels (stack_next ns g.H.Host.table c.args.self.now.stack.items) gv

pub returns-in-Costly-clause-means : goal.returns-in-Costly-clause-means
returns-in-Costly-clause-means g c =
    let ns = names_of c.args.natives.now in
    let t = g.H.Host.table in
    let e = c.args.self.now in
    let before = rw (c.in-Costly.is, c.words_of.ensures, c.deref.ensures) at c.in_ok-passed.ensures.means in
    IfOk-weaker c.next_costly.result _ _
    (λ step means gv. means ns gv
    ∙ ap (λ (n : ℕ). run_costly (nested ns t c.args.levels) (words_from n (command_at c.args.at (tree_of c.args.script.value))) (stack_next ns t e.stack.items) (state_of e) e.budget gv) c.len.ensures
    ∙ before ns c.args.levels (stack_next ns g.H.Host.table c.args.self.now.stack.items) gv)
    c.next_costly.ensures.means

pub returns-in-Costly-clause-falls : goal.returns-in-Costly-clause-falls
returns-in-Costly-clause-falls g c =
    let less = rw (c.in-Costly.is, c.words_of.ensures, c.deref.ensures) at c.in_ok-passed.ensures.less in
    let same = ap (λ (n : ℕ). words_size (words_from n (command_at c.args.at (tree_of c.args.script.value)))) c.len.ensures in
    IfOk-weaker c.next_costly.result _ _ (λ step falls. omega (arith, less, falls, same)) c.next_costly.ensures.falls

pub returns-in-On-clause-means : goal.returns-in-On-clause-means
returns-in-On-clause-means g c =
    let ns = names_of c.args.natives.now in
    let before = rw (c.in-On.is, c.words_of.ensures, c.deref.ensures) at c.in_ok-passed.ensures.means in
    IfOk-weaker c.enter_word.result _ _ (λ step means gv. means ns gv ∙ before ns c.args.levels (stack_next ns g.H.Host.table c.args.self.now.stack.items) gv) c.enter_word.ensures.means

pub returns-in-On-clause-falls : goal.returns-in-On-clause-falls
returns-in-On-clause-falls g c =
    let less = rw (c.in-On.is, c.words_of.ensures, c.deref.ensures) at c.in_ok-passed.ensures.less in
    IfOk-weaker c.enter_word.result _ _ (λ step falls. omega (arith, less, falls)) c.enter_word.ensures.falls

pub returns-in-Left-clause-means : goal.returns-in-Left-clause-means
returns-in-Left-clause-means g c =
    let ns = names_of c.args.natives.now in
    let before = rw (c.in-Left.is, c.words_of.ensures, c.deref.ensures) at c.in_ok-passed.ensures.means in
    IfOk-weaker c.enter_word-in-Left.result _ _ (λ step means gv. means ns gv ∙ before ns c.args.levels (stack_next ns g.H.Host.table c.args.self.now.stack.items) gv) c.enter_word-in-Left.ensures.means

pub returns-in-Left-clause-falls : goal.returns-in-Left-clause-falls
returns-in-Left-clause-falls g c =
    let less = rw (c.in-Left.is, c.words_of.ensures, c.deref.ensures) at c.in_ok-passed.ensures.less in
    IfOk-weaker c.enter_word-in-Left.result _ _ (λ step falls. omega (arith, less, falls)) c.enter_word-in-Left.ensures.falls
