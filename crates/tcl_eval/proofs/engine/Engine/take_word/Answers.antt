use Rattle.std.proofs.Common.{◌∙◌, length, sym, arith}
use Rattle.std.proofs.lemmas.Bool.{ltb-true}
use Rattle.tcl_eval.specs.Eval.{nested}
use Rattle.tcl_eval.specs.Places.{words_from}
use Rattle.tcl_eval.specs.Engine.{state_of}
use Rattle.tcl_eval.proofs.Alike.{run_script_alike}
use Rattle.tcl_eval.proofs.Kept.{costly_same}
use Rattle.tcl_eval.proofs.Plain.{word_shorter}
use Rattle.tcl_eval.proofs.Steps.{other_code, taken}
use Rattle.tcl_eval.proofs.engine.Engine.take_word.Goals as goal

pub returns-then-value-ne-OK-clause-means : goal.returns-then-value-ne-OK-clause-means
returns-then-value-ne-OK-clause-means g c = λ ns levels all k gv.
    let e = c.args.self.now in
    other_code _ k c.args.value.code c.args.value.result (state_of e) e.budget gv c.if-value-ne-OK.true

pub returns-then-costly-clause-means : goal.returns-then-costly-clause-means
returns-then-costly-clause-means g c = λ ns levels all k gv.
    let t = g.H.Host.table in
    let e = c.args.self.now in
    let inner = nested ns t levels in
    let values = c.join.new.self in
    costly_same ns t inner (run_script_alike ns t levels) (words_from (length values) all) values k (state_of e) e.budget gv (ltb-true c.args.self.now.budget _ (sym c.in_ok-costly.ensures.over ∙ c.if-costly.true))
    ∙ taken ns t inner all c.args.values.now values c.args.value k (state_of e) e.budget gv c.if-value-ne-OK.false c.in_ok-costly.ensures.words

pub returns-clause-means : goal.returns-clause-means
returns-clause-means g c = λ ns levels all k gv.
    let t = g.H.Host.table in
    let e = c.args.self.now in
    taken ns t (nested ns t levels) all c.args.values.now c.join.new.self c.args.value k (state_of e) e.budget gv c.if-value-ne-OK.false c.in_ok-costly.ensures.words

pub returns-then-costly-clause-less : goal.returns-then-costly-clause-less
returns-then-costly-clause-less g c = λ all pieces is.
    omega (arith, word_shorter all pieces c.args.values.now c.join.new.self c.args.value.result is c.in_ok-costly.ensures.words)

pub returns-clause-less : goal.returns-clause-less
returns-clause-less g c = λ all pieces is.
    word_shorter all pieces c.args.values.now c.join.new.self c.args.value.result is c.in_ok-costly.ensures.words
