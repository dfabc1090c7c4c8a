use Rattle.std.proofs.Common.{ℕ, ap, sym, ◌∙◌, length}
use Rattle.std.proofs.lemmas.Bool.{ltb-true}
use Rattle.natives.specs.Names.{names_of}
use Rattle.tcl_eval.specs.Eval.{nested}
use Rattle.tcl_eval.specs.Places.{tree_of, command_at, words_from}
use Rattle.tcl_eval.specs.Stack.{stack_next}
use Rattle.tcl_eval.specs.Engine.{state_of}
use Rattle.tcl_eval.specs.Kept.{run_costly}
use Rattle.tcl_eval.proofs.Alike.{run_script_alike}
use Rattle.tcl_eval.proofs.Kept.{costly_same}
use Rattle.tcl_eval.proofs.Steps.{taken}
use Rattle.tcl_eval.proofs.engine.Engine.give_word.Goals as goal

pub returns-then-costly-clause-means : goal.returns-then-costly-clause-means
returns-then-costly-clause-means g c = λ gv.
    let ns = names_of c.args.natives.now in
    let t = g.H.Host.table in
    let e = c.args.self.now in
    let all = command_at c.args.at (tree_of c.args.script.value) in
    let k = stack_next ns t e.stack.items in
    let inner = nested ns t c.args.levels in
    let values = c.join.new.self in
    c.in_ok-step.ensures.means ns gv
    ∙ ap (λ (n : ℕ). run_costly inner (words_from n all) k (state_of e) e.budget gv) c.len.ensures
    ∙ costly_same ns t inner (run_script_alike ns t c.args.levels) (words_from (length values) all) values k (state_of e) e.budget gv (ltb-true c.args.self.now.budget _ (sym c.in_ok-costly.ensures.over ∙ c.if-costly.true))
    ∙ taken ns t inner all c.args.values values c.args.value k (state_of e) e.budget gv c.if-value-ne-OK.false c.in_ok-costly.ensures.words

pub returns-clause-means : goal.returns-clause-means
returns-clause-means g c = λ gv.
    let ns = names_of c.args.natives.now in
    let t = g.H.Host.table in
    let e = c.args.self.now in
    c.in_ok-step-2.ensures.means gv
    ∙ taken ns t (nested ns t c.args.levels) (command_at c.args.at (tree_of c.args.script.value)) c.args.values c.join.new.self c.args.value (stack_next ns t e.stack.items) (state_of e) e.budget gv c.if-value-ne-OK.false c.in_ok-costly.ensures.words
