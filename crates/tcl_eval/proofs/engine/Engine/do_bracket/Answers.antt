use Rattle.std.proofs.Common.{◌∙◌, suc, []}
use Rattle.natives.specs.Names.{names_of}
use Rattle.tcl_parse.specs.Tree.{bracket, part, no_parts}
use Rattle.tcl_eval.specs.Eval.{nested, run_parts}
use Rattle.tcl_eval.specs.Kept.{judged}
use Rattle.tcl_eval.specs.Places.{tree_of}
use Rattle.tcl_eval.specs.Engine.{state_of}
use Rattle.tcl_eval.proofs.OneBracket.{behind_bracket, bracket_handed, left_alone}
use Rattle.tcl_eval.proofs.engine.Engine.do_bracket.Goals as goal

pub returns-in_ok-word-in-Gives-clause-means : goal.returns-in_ok-word-in-Gives-clause-means
returns-in_ok-word-in-Gives-clause-means g c = λ levels k gv.
    let ns = names_of c.args.natives.now in
    let t = g.H.Host.table in
    let new = c.run_once.new.self in
    let did = rw c.in-Gives.is at c.in_ok-value.ensures.means in
    bracket_handed (nested ns t levels) c.in_ok-word-in-Gives.word c.in-Gives.value k (state_of new) new.budget gv c.in_ok-word-in-Gives.ensures
    ∙ did levels (behind_bracket k) gv

pub returns-in-Spent-clause-means : goal.returns-in-Spent-clause-means
returns-in-Spent-clause-means g c = λ levels k gv.
    let did = rw c.in-Spent.is at c.in_ok-value.ensures.means in
    did levels (behind_bracket k) gv

pub returns-in-Left-clause-means : goal.returns-in-Left-clause-means
returns-in-Left-clause-means g c = λ levels k gv.
    let ns = names_of c.args.natives.now in
    let t = g.H.Host.table in
    let same = rw c.in-Left.is at c.in_ok-value.ensures.left in
    left_alone c.run_once.new.self c.args.self.now (λ k. run_parts (nested ns t (suc levels)) (part (bracket (tree_of c.args.script.now)) no_parts) [] (judged k)) k gv same
