use Rattle.std.proofs.Common.{◌∙◌, arith, map}
use Rattle.tcl_parse.specs.Tree.{parts}
use Rattle.tcl_parse.specs.View.{part_of}
use Rattle.tcl_eval.specs.Engine.{state_of}
use Rattle.tcl_eval.proofs.Plain.{word_given}
use Rattle.tcl_eval.proofs.engine.Engine.other_word.Goals as goal

pub returns-in_ok-passed-in-Some-clause-means : goal.returns-in_ok-passed-in-Some-clause-means
returns-in_ok-passed-in-Some-clause-means g c = λ ns levels all is k gv.
    let e = c.args.self.now in
    let found = rw c.in-Some.is at c.in_ok-simple_word.ensures in
    c.in_ok-passed-in-Some.ensures.means ns levels all k gv
    ∙ word_given ns g.H.Host.table levels all (parts (map part_of c.args.pieces.now)) c.args.values.now c.in-Some.value k (state_of e) e.budget gv is found

pub returns-in_ok-passed-in-Some-clause-less : goal.returns-in_ok-passed-in-Some-clause-less
returns-in_ok-passed-in-Some-clause-less g c = λ all is.
    c.in_ok-passed-in-Some.ensures.less all (parts (map part_of c.args.pieces.now)) is
