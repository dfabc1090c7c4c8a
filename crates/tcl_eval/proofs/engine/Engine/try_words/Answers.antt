use Rattle.std.proofs.Common.{◌∙◌, length, ap, arith}
use Rattle.natives.specs.Names.{names_of}
use Rattle.tcl_eval.specs.Eval.{nested, run_words}
use Rattle.tcl_eval.specs.Places.{tree_of, command_at, words_from}
use Rattle.tcl_eval.specs.Stack.{stack_weight}
use Rattle.tcl_eval.specs.Straight.{tried_next}
use Rattle.tcl_eval.proofs.Commands.{alike_same}
use Rattle.tcl_eval.proofs.engine.Engine.try_words.Goals as goal

pub returns-then-has_word-clause-means : goal.returns-then-has_word-clause-means
returns-then-has_word-clause-means g c = λ gv. c.in_ok-step.ensures.means (names_of c.args.natives.now) gv

pub returns-in-Gives-clause-means : goal.returns-in-Gives-clause-means
returns-in-Gives-clause-means g c = λ gv.
    let ns = names_of c.args.natives.now in
    let t = g.H.Host.table in
    let inner = nested ns t c.args.levels in
    let all = command_at c.args.at (tree_of c.args.script.value) in
    let none = rw (c.len.ensures, c.deref.ensures) at c.if-has_word.ensures.there in
    let did = rw c.in-Gives.is at (alike_same ns t c.try_command.new.self c.args.self.now (λ k. tried_next ns t inner all c.in_ok-value.field-0 k) (λ k. run_words ns t inner (words_from (length c.args.values) all) c.args.values k) (c.in_ok-value.ensures.means c.args.levels all none) c.in_ok-value.ensures.straight.2) in
    did gv

pub returns-in-Spent-clause-means : goal.returns-in-Spent-clause-means
returns-in-Spent-clause-means g c = λ gv.
    let ns = names_of c.args.natives.now in
    let t = g.H.Host.table in
    let inner = nested ns t c.args.levels in
    let all = command_at c.args.at (tree_of c.args.script.value) in
    let none = rw (c.len.ensures, c.deref.ensures) at c.if-has_word.ensures.there in
    let did = rw c.in-Spent.is at (alike_same ns t c.try_command.new.self c.args.self.now (λ k. tried_next ns t inner all c.in_ok-value.field-0 k) (λ k. run_words ns t inner (words_from (length c.args.values) all) c.args.values k) (c.in_ok-value.ensures.means c.args.levels all none) c.in_ok-value.ensures.straight.2) in
    did gv

pub returns-in_ok-step-in-Left-clause-means : goal.returns-in_ok-step-in-Left-clause-means
returns-in_ok-step-in-Left-clause-means g c = λ gv.
    let ns = names_of c.args.natives.now in
    let t = g.H.Host.table in
    let inner = nested ns t c.args.levels in
    let all = command_at c.args.at (tree_of c.args.script.value) in
    let none = rw (c.len.ensures, c.deref.ensures) at c.if-has_word.ensures.there in
    let did = rw c.in-Left.is at (alike_same ns t c.try_command.new.self c.args.self.now (λ k. tried_next ns t inner all c.in_ok-value.field-0 k) (λ k. run_words ns t inner (words_from (length c.args.values) all) c.args.values k) (c.in_ok-value.ensures.means c.args.levels all none) c.in_ok-value.ensures.straight.2) in
    c.in_ok-step-in-Left.ensures.means ns gv ∙ did gv

pub returns-in_ok-step-in-Left-clause-falls : goal.returns-in_ok-step-in-Left-clause-falls
returns-in_ok-step-in-Left-clause-falls g c =
    let all = command_at c.args.at (tree_of c.args.script.value) in
    let size = rw c.in-Left.is at c.in_ok-value.ensures.size in
    let same = ap (λ stack. stack_weight stack.items) c.in_ok-value.ensures.straight.2 in
    omega (arith, c.in_ok-step-in-Left.ensures.falls, size all, same)

pub returns-in_ok-step-in-Costly-clause-means : goal.returns-in_ok-step-in-Costly-clause-means
returns-in_ok-step-in-Costly-clause-means g c = λ gv.
    let ns = names_of c.args.natives.now in
    let t = g.H.Host.table in
    let inner = nested ns t c.args.levels in
    let all = command_at c.args.at (tree_of c.args.script.value) in
    let none = rw (c.len.ensures, c.deref.ensures) at c.if-has_word.ensures.there in
    let did = rw c.in-Costly.is at (alike_same ns t c.try_command.new.self c.args.self.now (λ k. tried_next ns t inner all c.in_ok-value.field-0 k) (λ k. run_words ns t inner (words_from (length c.args.values) all) c.args.values k) (c.in_ok-value.ensures.means c.args.levels all none) c.in_ok-value.ensures.straight.2) in
    c.in_ok-step-in-Costly.ensures.means ns gv ∙ did gv

pub returns-in_ok-step-in-Costly-clause-falls : goal.returns-in_ok-step-in-Costly-clause-falls
returns-in_ok-step-in-Costly-clause-falls g c =
    let all = command_at c.args.at (tree_of c.args.script.value) in
    let size = rw c.in-Costly.is at c.in_ok-value.ensures.size in
    let same = ap (λ stack. stack_weight stack.items) c.in_ok-value.ensures.straight.2 in
    omega (arith, c.in_ok-step-in-Costly.ensures.falls, size all, same)

pub returns-in-Evaluates-clause-means : goal.returns-in-Evaluates-clause-means
returns-in-Evaluates-clause-means g c = λ gv.
    let ns = names_of c.args.natives.now in
    let t = g.H.Host.table in
    let inner = nested ns t c.args.levels in
    let all = command_at c.args.at (tree_of c.args.script.value) in
    let none = rw (c.len.ensures, c.deref.ensures) at c.if-has_word.ensures.there in
    let did = rw c.in-Evaluates.is at (alike_same ns t c.try_command.new.self c.args.self.now (λ k. tried_next ns t inner all c.in_ok-value.field-0 k) (λ k. run_words ns t inner (words_from (length c.args.values) all) c.args.values k) (c.in_ok-value.ensures.means c.args.levels all none) c.in_ok-value.ensures.straight.2) in
    did gv
