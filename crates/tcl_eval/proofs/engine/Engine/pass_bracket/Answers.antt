use Rattle.std.proofs.Common.{◌∙◌, ◌+◌, ◌++◌, ◌∷◌, [], length, map, sym}
use Rattle.natives.specs.Names.{names_of}
use Rattle.tcl_parse.specs.Tree.{parts}
use Rattle.tcl_parse.specs.View.{part_of}
use Rattle.tcl_eval.specs.Eval.{nested, on_ok, run_words}
use Rattle.tcl_eval.specs.Places.{words_from}
use Rattle.tcl_eval.specs.Engine.{state_of}
use Rattle.tcl_eval.proofs.OneBracket.{word_next}
use Rattle.tcl_eval.proofs.engine.Engine.pass_bracket.Goals as goal

pub returns-in_ok-passed-in-Gives-clause-means : goal.returns-in_ok-passed-in-Gives-clause-means
returns-in_ok-passed-in-Gives-clause-means g c = λ all is k gv.
    let ns = names_of c.args.natives.now in
    let t = g.H.Host.table in
    let e = c.args.self.now in
    let inner = nested ns t c.args.levels in
    let values = c.args.values.now in
    let did = rw c.in-Gives.is at c.in_ok-value.ensures.means in
    c.in_ok-passed-in-Gives.ensures.means ns c.args.levels all k gv
    ∙ did (on_ok (λ v. run_words ns t inner (words_from (length values + 1) all) (values ++ v ∷ []) k) k) gv
    ∙ word_next ns t c.args.levels all (parts (map part_of c.args.pieces.now)) values k (state_of e) e.budget gv is

pub returns-in_ok-passed-in-Gives-clause-less : goal.returns-in_ok-passed-in-Gives-clause-less
returns-in_ok-passed-in-Gives-clause-less g c = λ all is.
    c.in_ok-passed-in-Gives.ensures.less all (parts (map part_of c.args.pieces.now)) is

pub returns-in-Spent-clause-means : goal.returns-in-Spent-clause-means
returns-in-Spent-clause-means g c = λ all is k gv.
    let ns = names_of c.args.natives.now in
    let t = g.H.Host.table in
    let e = c.args.self.now in
    let inner = nested ns t c.args.levels in
    let values = c.args.values.now in
    let did = rw c.in-Spent.is at c.in_ok-value.ensures.means in
    did (on_ok (λ v. run_words ns t inner (words_from (length values + 1) all) (values ++ v ∷ []) k) k) gv
    ∙ word_next ns t c.args.levels all (parts (map part_of c.args.pieces.now)) values k (state_of e) e.budget gv is

pub returns-in-Left-clause-means : goal.returns-in-Left-clause-means
returns-in-Left-clause-means g c = λ all is k gv.
    let ns = names_of c.args.natives.now in
    let t = g.H.Host.table in
    let e = c.args.self.now in
    let new = c.try_bracket.new.self in
    let inner = nested ns t c.args.levels in
    let values = c.args.values.now in
    let ps = parts (map part_of c.args.pieces.now) in
    let did = rw c.in-Left.is at c.in_ok-value.ensures.means in
    sym (word_next ns t c.args.levels all ps values k (state_of new) new.budget gv is)
    ∙ did (on_ok (λ v. run_words ns t inner (words_from (length values + 1) all) (values ++ v ∷ []) k) k) gv
    ∙ word_next ns t c.args.levels all ps values k (state_of e) e.budget gv is
