use Rattle.std.proofs.Common.{◌∙◌, ap}
use Rattle.tcl_eval.specs.Eval.{built_in}
use Rattle.tcl_eval.specs.declared.verb.Verb.{Verb}
use Rattle.tcl_eval.proofs.engine.Engine.language_value.Goals as goal

pub returns-in-Some-clause-means : goal.returns-in-Some-clause-means
returns-in-Some-clause-means g c = λ ns inner k.
    let t = g.H.Host.table in
    let means = rw c.in-Some.is at c.in_ok-end_value.ensures.means in
    let verb = rw c.bytes_at.ensures at c.find_verb-verb.ensures in
    means ns inner k ∙ ap (λ (v : Verb). built_in ns t inner v c.args.words.now k) verb
