use Rattle.std.proofs.Common.{◌∙◌, ap, []}
use Rattle.natives.specs.Names.{names_of}
use Rattle.tcl_eval.specs.Eval.{give, nested}
use Rattle.tcl_eval.specs.Loops.{turn_body}
use Rattle.tcl_eval.specs.Engine.{state_of}
use Rattle.tcl_eval.specs.declared.stack.Ended.{Ended}
use Rattle.tcl_eval.proofs.engine.Engine.turn_tested.Goals as goal

pub returns-in_ok-turn-in-Holds-clause-means : goal.returns-in_ok-turn-in-Holds-clause-means
returns-in_ok-turn-in-Holds-clause-means g c = λ go k gv.
    let ns = names_of c.args.natives.now in
    let t = g.H.Host.table in
    let test = rw c.in-Holds.is at c.in_ok-test_value.ensures.means in
    c.in_ok-turn-in-Holds.ensures.means go k gv
    ∙ test ns c.args.levels (k 0 []) (turn_body (nested ns t c.args.levels) c.args.turning.now go k) k gv

pub returns-in-Fails-clause-means : goal.returns-in-Fails-clause-means
returns-in-Fails-clause-means g c = λ go k gv.
    let ns = names_of c.args.natives.now in
    let t = g.H.Host.table in
    let e = c.test_value.new.self in
    let test = rw c.in-Fails.is at c.in_ok-test_value.ensures.means in
    ap (λ (v : Ended). give v k (state_of e) e.budget gv) c.done.ensures
    ∙ test ns c.args.levels (k 0 []) (turn_body (nested ns t c.args.levels) c.args.turning.now go k) k gv

pub returns-in-Ends-clause-means : goal.returns-in-Ends-clause-means
returns-in-Ends-clause-means g c = λ go k gv.
    let ns = names_of c.args.natives.now in
    let t = g.H.Host.table in
    let test = rw c.in-Ends.is at c.in_ok-test_value.ensures.means in
    test ns c.args.levels (k 0 []) (turn_body (nested ns t c.args.levels) c.args.turning.now go k) k gv

pub returns-in-Spent-clause-means : goal.returns-in-Spent-clause-means
returns-in-Spent-clause-means g c = λ go k gv.
    let ns = names_of c.args.natives.now in
    let t = g.H.Host.table in
    let test = rw c.in-Spent.is at c.in_ok-test_value.ensures.means in
    test ns c.args.levels (k 0 []) (turn_body (nested ns t c.args.levels) c.args.turning.now go k) k gv

pub returns-in-Left-clause-means : goal.returns-in-Left-clause-means
returns-in-Left-clause-means g c = λ go k gv.
    let ns = names_of c.args.natives.now in
    let t = g.H.Host.table in
    let test = rw c.in-Left.is at c.in_ok-test_value.ensures.means in
    test ns c.args.levels (k 0 []) (turn_body (nested ns t c.args.levels) c.args.turning.now go k) k gv
