use Rattle.std.proofs.Common.{◌∙◌, ap, []}
use Rattle.natives.specs.Names.{names_of}
use Rattle.tcl_eval.specs.Eval.{give, nested}
use Rattle.tcl_eval.specs.Loops.{turn_body}
use Rattle.tcl_eval.specs.Engine.{state_of}
use Rattle.tcl_eval.specs.declared.stack.Ended.{Ended}
use Rattle.tcl_eval.proofs.engine.Engine.turn_straight.Goals as goal

pub returns-in_ok-turn-in-Some-true-clause-means : goal.returns-in_ok-turn-in-Some-true-clause-means
returns-in_ok-turn-in-Some-true-clause-means g c = λ go k gv.
    let ns = names_of c.args.natives.now in
    let t = g.H.Host.table in
    let test = rw c.in-Some-true.field-0-test at c.in-Some-true.ensures.means in
    c.in_ok-turn-in-Some-true.ensures.means go k gv
    ∙ test ns c.args.levels (k 0 []) (turn_body (nested ns t c.args.levels) c.args.turning.now go k) k gv

pub returns-in-Some-false-clause-means : goal.returns-in-Some-false-clause-means
returns-in-Some-false-clause-means g c = λ go k gv.
    let ns = names_of c.args.natives.now in
    let t = g.H.Host.table in
    let e = c.test_at_once.new.self in
    let test = rw c.in-Some-false.field-0-test at c.in-Some-false.ensures.means in
    ap (λ (v : Ended). give v k (state_of e) e.budget gv) c.done.ensures
    ∙ test ns c.args.levels (k 0 []) (turn_body (nested ns t c.args.levels) c.args.turning.now go k) k gv

pub returns-in_ok-turn-in-None-clause-means : goal.returns-in_ok-turn-in-None-clause-means
returns-in_ok-turn-in-None-clause-means g c =
    rw c.in-None.ensures.left at c.in_ok-turn-in-None.ensures.means
