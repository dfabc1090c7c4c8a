use Rattle.std.proofs.Common.{◌∙◌, sym}
use Rattle.tcl_eval.specs.Eval.{nested}
use Rattle.tcl_eval.specs.Stack.{stack_next}
use Rattle.tcl_eval.specs.Engine.{state_of}
use Rattle.tcl_eval.proofs.Acts.{catch_two, catch_three}
use Rattle.tcl_eval.proofs.engine.Engine.do_catch.Goals as goal

pub returns-then-len-eq2-clause-means : goal.returns-then-len-eq2-clause-means
returns-then-len-eq2-clause-means g c = λ ns opened gv.
    let t = g.H.Host.table in
    let e = c.args.self.now in
    catch_two (nested ns t c.args.levels) c.args.words.now (stack_next ns t e.stack.items) (state_of e) e.budget gv _ (sym c.len.ensures ∙ c.if-len-eq2.true) (c.in_ok-acted.ensures.means ns opened gv)

pub returns-then-len-eq3-clause-means : goal.returns-then-len-eq3-clause-means
returns-then-len-eq3-clause-means g c = λ ns opened gv.
    let t = g.H.Host.table in
    let e = c.args.self.now in
    catch_three (nested ns t c.args.levels) c.args.words.now c.in_ok-name.name (stack_next ns t e.stack.items) (state_of e) e.budget gv _ (sym c.len-2.ensures ∙ c.if-len-eq3.true) c.in_ok-name.ensures (c.in_ok-acted-2.ensures.means ns opened gv)
