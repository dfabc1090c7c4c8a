use Rattle.std.proofs.Common.{◌∙◌, ℕ, List, length, refl, ap, arith}
use Rattle.natives.specs.Names.{names_of}
use Rattle.tcl_eval.specs.Eval.{nested, run_words}
use Rattle.tcl_eval.specs.Kept.{run_costly}
use Rattle.tcl_eval.specs.Places.{tree_of, command_at, words_from, words_size}
use Rattle.tcl_eval.specs.Engine.{state_of}
use Rattle.tcl_eval.proofs.Counts.{held_both}
use Rattle.tcl_eval.proofs.engine.Engine.next_straight.Goals as goal

pub words-init : goal.words-init
words-init g c =
    let ns = names_of c.args.natives.now in
    let t = g.H.Host.table in
    let e = c.args.self.now in
    let all = command_at c.args.at (tree_of c.args.script.now) in
    record {
      means = λ k gv. ap (λ (x : List (List ℕ)). run_words ns t (nested ns t c.args.levels) (words_from (length x) all) x k (state_of e) e.budget gv) c.take-values.ensures;
      size = omega (arith, ap (λ (x : List (List ℕ)). words_size (words_from (length x) all)) c.take-values.ensures);
      straight = (omega arith, refl, refl);
      holds = (refl, refl, refl);
    }

pub words-preserved : goal.words-preserved
words-preserved g c =
    let e = c.words.self in
    let did = rw (c.in-On.is, c.words_of-all.ensures) at c.in_ok-pass_words.ensures.means in
    let less = rw (c.in-On.is, c.words_of-all.ensures) at c.in_ok-pass_words.ensures.less in
    let straight = c.in_ok-pass_words.ensures.straight in
    let before = c.words.invariant.straight in
    record {
      means = λ k gv. did k gv ∙ c.words.invariant.means k gv;
      size = omega (arith, less, c.words.invariant.size);
      straight = (omega (arith, straight.0, before.0), straight.1 ∙ before.1, straight.2 ∙ before.2);
      holds = held_both c.pass_words.new.self e c.args.self.now c.in_ok-pass_words.ensures.holds c.words.invariant.holds;
    }

pub words-smaller : goal.words-smaller
words-smaller g c =
    let less = rw (c.in-On.is, c.words_of-all.ensures) at c.in_ok-pass_words.ensures.less in
    omega (arith, less)

pub returns-in-All-clause-means : goal.returns-in-All-clause-means
returns-in-All-clause-means g c = λ k gv.
    let did = rw (c.in-All.is, c.words_of-all.ensures) at c.in_ok-pass_words.ensures.means in
    let none = rw (c.in-All.is, c.words_of-all.ensures) at c.in_ok-pass_words.ensures.less in
    c.in_ok-tried-in-All.ensures.means (command_at c.args.at (tree_of c.args.script.now)) none k gv
    ∙ did k gv ∙ c.words.invariant.means k gv

pub returns-in-Ends-clause-means : goal.returns-in-Ends-clause-means
returns-in-Ends-clause-means g c = λ k gv.
    let did = rw (c.in-Ends.is, c.words_of-all.ensures) at c.in_ok-pass_words.ensures.means in
    did k gv ∙ c.words.invariant.means k gv

pub returns-in-Spent-clause-means : goal.returns-in-Spent-clause-means
returns-in-Spent-clause-means g c = λ k gv.
    let did = rw (c.in-Spent.is, c.words_of-all.ensures) at c.in_ok-pass_words.ensures.means in
    did k gv ∙ c.words.invariant.means k gv

pub returns-in-Costly-clause-means : goal.returns-in-Costly-clause-means
returns-in-Costly-clause-means g c = λ k gv.
    let ns = names_of c.args.natives.now in
    let t = g.H.Host.table in
    let e = c.pass_words.new.self in
    let did = rw (c.in-Costly.is, c.words_of-all.ensures) at c.in_ok-pass_words.ensures.means in
    ap (λ (n : ℕ). run_costly (nested ns t c.args.levels) (words_from n (command_at c.args.at (tree_of c.args.script.now))) k (state_of e) e.budget gv) c.len.ensures
    ∙ did k gv ∙ c.words.invariant.means k gv

pub returns-in-Left-clause-means : goal.returns-in-Left-clause-means
returns-in-Left-clause-means g c = λ k gv.
    let did = rw (c.in-Left.is, c.words_of-all.ensures) at c.in_ok-pass_words.ensures.means in
    did k gv ∙ c.words.invariant.means k gv
