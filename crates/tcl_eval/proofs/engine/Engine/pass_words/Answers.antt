use Rattle.std.proofs.Common.{◌∙◌, length, map, refl, arith}
use Rattle.natives.specs.Names.{names_of}
use Rattle.tcl_parse.specs.Tree.{words}
use Rattle.tcl_parse.specs.View.{word_of}
use Rattle.tcl_eval.specs.Places.{words_from}
use Rattle.tcl_eval.proofs.OneBracket.{less_more}
use Rattle.tcl_eval.proofs.engine.Engine.pass_words.Goals as goal

pub returns-in-All-clause-means : goal.returns-in-All-clause-means
returns-in-All-clause-means g c = λ k gv.
    let before = rw c.in-All.is at c.in_ok-passed.ensures.means in
    before (names_of c.args.natives.now) c.args.levels k gv

pub returns-in-All-clause-less : goal.returns-in-All-clause-less
returns-in-All-clause-less g c = rw c.in-All.is at c.in_ok-passed.ensures.less

pub returns-in-None-clause-means : goal.returns-in-None-clause-means
returns-in-None-clause-means g c = λ k gv.
    let before = rw c.in-Left.is at c.in_ok-passed.ensures.means in
    before (names_of c.args.natives.now) c.args.levels k gv

pub returns-in-None-clause-less : goal.returns-in-None-clause-less
returns-in-None-clause-less g c = rw c.len.ensures at c.in-None.ensures

pub returns-in_ok-passed-in-Some-clause-means : goal.returns-in_ok-passed-in-Some-clause-means
returns-in_ok-passed-in-Some-clause-means g c = λ k gv.
    let before = rw c.in-Left.is at c.in_ok-passed.ensures.means in
    let here = rw c.len.ensures at c.in-Some.ensures in
    c.in_ok-passed-in-Some.ensures.means (words (map word_of c.args.all.now)) here k gv
    ∙ before (names_of c.args.natives.now) c.args.levels k gv

pub returns-in_ok-passed-in-Some-clause-less : goal.returns-in_ok-passed-in-Some-clause-less
returns-in_ok-passed-in-Some-clause-less g c =
    let all = words (map word_of c.args.all.now) in
    let here = rw c.len.ensures at c.in-Some.ensures in
    let shorter = rw c.in-Left.is at c.in_ok-passed.ensures.less in
    less_more c.in_ok-passed-in-Some.passed (words_from (length c.pass_bracket.new.values) all) (words_from (length c.simple_words.new.values) all) (words_from (length c.args.values.now) all) shorter (c.in_ok-passed-in-Some.ensures.less all here)

pub returns-in_default : goal.returns-in_default
returns-in_default g c = record {
  means = λ k gv. c.in_ok-passed.ensures.means (names_of c.args.natives.now) c.args.levels k gv;
  less = c.in_ok-passed.ensures.less;
  straight = (omega arith, refl, refl);
  holds = (refl, refl, refl);
}
