use Rattle.std.proofs.Common.{◌∙◌, ℕ, List, ap, sym}
use Rattle.tcl_eval.specs.Eval.{nested, give, error_of}
use Rattle.tcl_eval.specs.Stack.{stack_next}
use Rattle.tcl_eval.specs.Engine.{state_of, acted_next}
use Rattle.tcl_eval.specs.declared.stack.Acted.{Acted}
use Rattle.tcl_eval.proofs.Turns.{foreach_step, foreach_bad_step}
use Rattle.tcl_eval.proofs.engine.Engine.do_foreach.Goals as goal

pub returns-clause-means : goal.returns-clause-means
returns-clause-means g c = λ ns opened gv.
    let t = g.H.Host.table in
    let e = c.args.self.now in
    foreach_step ns t (nested ns t c.args.levels) c.args.words.now c.in-Ok.names c.in-Ok-split.values c.in_ok-names.names c.in_ok-values.values c.in_ok-body-in-Ok-split.body (stack_next ns t e.stack.items) (state_of e) e.budget gv _ (sym c.len.ensures ∙ c.if-len-ne4.false) c.in_ok-names.ensures c.in-Ok.ensures (λ none. c.if-len-eq0.false (c.len-2.ensures ∙ none)) c.in_ok-values.ensures c.in-Ok-split.ensures c.in_ok-body-in-Ok-split.ensures (c.in_ok-acted-in-Ok-split.ensures.means ns opened gv)

pub returns-in-Err-Bad-split-clause-means : goal.returns-in-Err-Bad-split-clause-means
returns-in-Err-Bad-split-clause-means g c = λ ns opened gv.
    let t = g.H.Host.table in
    let e = c.args.self.now in
    let k = stack_next ns t e.stack.items in
    foreach_bad_step ns t (nested ns t c.args.levels) c.args.words.now c.in-Ok.names c.in_ok-names.names c.in_ok-values.values c.in-Err-Bad-split.at k (state_of e) e.budget gv _ (sym c.len.ensures ∙ c.if-len-ne4.false) c.in_ok-names.ensures c.in-Ok.ensures (λ none. c.if-len-eq0.false (c.len-2.ensures ∙ none)) c.in_ok-values.ensures (rw c.in-Err-Bad-split.field-0-is at c.in-Err-Bad-split.ensures)
    (ap (λ (a : Acted). acted_next ns t a opened k (state_of e) e.budget gv) c.in_ok-acted-in-Err-Bad-split.ensures
    ∙ ap (λ (m : List ℕ). give (error_of m) k (state_of e) e.budget gv) c.in_ok-no_list-in-Err-Bad-split.ensures)
