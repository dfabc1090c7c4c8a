use Rattle.std.proofs.Common.{length, map, arith, sym, ◌∙◌}
use Rattle.std.proofs.lemmas.Bool.{ltb-true}
use Rattle.tcl_parse.specs.Tree.{words}
use Rattle.tcl_parse.specs.View.{word_of}
use Rattle.tcl_eval.specs.Eval.{nested}
use Rattle.tcl_eval.specs.Places.{words_from}
use Rattle.tcl_eval.specs.Engine.{state_of}
use Rattle.tcl_eval.proofs.Alike.{run_script_alike}
use Rattle.tcl_eval.proofs.Kept.{costly_same}
use Rattle.tcl_eval.proofs.OneBracket.{less_more}
use Rattle.tcl_eval.proofs.Plain.{word_shorter, word_taken}
use Rattle.tcl_eval.proofs.engine.Engine.simple_words.Goals as goal

pub returns-then-costly-clause-means : goal.returns-then-costly-clause-means
returns-then-costly-clause-means g c = λ ns levels k gv.
    let t = g.H.Host.table in
    let e = c.args.self.now in
    let all = words (map word_of c.args.all.now) in
    let here = rw c.len.ensures at c.in-Some.ensures in
    let values = c.join.new.self in
    let joined = rw c.in_ok-word-in-Some-ready_text.ensures at c.in_ok-costly-in-Some-ready_text.ensures.words in
    costly_same ns t (nested ns t levels) (run_script_alike ns t levels) (words_from (length values) all) values k (state_of e) e.budget gv (ltb-true c.args.self.now.budget _ (sym c.in_ok-costly-in-Some-ready_text.ensures.over ∙ c.if-costly.true))
    ∙ word_taken ns t levels all _ c.words.values values c.in-Some-ready_text.text.now k (state_of e) e.budget gv here c.in-Some-ready_text.ensures joined
    ∙ c.words.invariant.means ns levels k gv

pub words-preserved-else-costly : goal.words-preserved-else-costly
words-preserved-else-costly g c =
    let t = g.H.Host.table in
    let e = c.args.self.now in
    let all = words (map word_of c.args.all.now) in
    let here = rw c.len.ensures at c.in-Some.ensures in
    let values = c.join.new.self in
    let joined = rw c.in_ok-word-in-Some-ready_text.ensures at c.in_ok-costly-in-Some-ready_text.ensures.words in
    record {
      means = λ ns levels k gv. word_taken ns t levels all _ c.words.values values c.in-Some-ready_text.text.now k (state_of e) e.budget gv here c.in-Some-ready_text.ensures joined ∙ c.words.invariant.means ns levels k gv;
      shorter = omega (arith, word_shorter all _ c.words.values values c.in-Some-ready_text.text.now here joined, c.words.invariant.shorter);
    }

pub words-preserved : goal.words-preserved
words-preserved g c =
    let all = words (map word_of c.args.all.now) in
    let here = rw c.len.ensures at c.in-Some.ensures in
    let did = rw c.in-On.is at c.in_ok-passed-in-None.ensures.means in
    let less = rw c.in-On.is at c.in_ok-passed-in-None.ensures.less in
    record {
      means = λ ns levels k gv. did ns levels all here k gv ∙ c.words.invariant.means ns levels k gv;
      shorter = omega (arith, less all here, c.words.invariant.shorter);
    }

pub returns-in_default-2 : goal.returns-in_default-2
returns-in_default-2 g c =
    let all = words (map word_of c.args.all.now) in
    let here = rw c.len.ensures at c.in-Some.ensures in
    record {
      means = λ ns levels k gv. c.in_ok-passed-in-None.ensures.means ns levels all here k gv ∙ c.words.invariant.means ns levels k gv;
      less = less_more c.in_ok-passed-in-None.passed (words_from (length c.other_word.new.values) all) (words_from (length c.words.values) all) (words_from (length c.args.values.now) all) c.words.invariant.shorter (c.in_ok-passed-in-None.ensures.less all here);
    }
