use Rattle.std.proofs.Common.{◌∙◌, ap, sym, Bool, Option, Some, true, false}
use Rattle.tcl_expr.specs.View.{tree_of}
use Rattle.tcl_eval.specs.Eval.{give, nested}
use Rattle.tcl_eval.specs.Expressions.{run_expression}
use Rattle.tcl_eval.specs.Going.{decided}
use Rattle.tcl_eval.specs.Engine.{state_of}
use Rattle.tcl_eval.specs.declared.stack.Ended.{Ended}
use Rattle.tcl_eval.proofs.engine.Engine.begun_chosen.Goals as goal

pub returns-in_ok-ended-in-None : goal.returns-in_ok-ended-in-None
returns-in_ok-ended-in-None g c = λ ns levels k b gv.
    let inner = nested ns g.H.Host.table levels in
    let s = state_of c.args.self.now in
    ap (λ (v : Ended). give v k s b gv) c.in_ok-ended-in-None.ensures
    ∙ ap (λ (o : Option Bool). decided o c.args.value.now (run_expression inner (tree_of c.args.first.now.value) k) (run_expression inner (tree_of c.args.second.now.value) k) k s b gv) c.in-None.ensures

pub returns-in_ok-begun-in-Some-true : goal.returns-in_ok-begun-in-Some-true
returns-in_ok-begun-in-Some-true g c = λ ns levels k b gv.
    let inner = nested ns g.H.Host.table levels in
    let s = state_of c.args.self.now in
    let has = sym (ap Some c.in-Some-true.field-0-test) ∙ c.in-Some-true.ensures in
    c.in_ok-begun-in-Some-true.ensures ns levels k b gv
    ∙ ap (λ (o : Option Bool). decided o c.args.value.now (run_expression inner (tree_of c.args.first.now.value) k) (run_expression inner (tree_of c.args.second.now.value) k) k s b gv) has

pub returns-in_ok-begun-in-Some-false : goal.returns-in_ok-begun-in-Some-false
returns-in_ok-begun-in-Some-false g c = λ ns levels k b gv.
    let inner = nested ns g.H.Host.table levels in
    let s = state_of c.args.self.now in
    let has = sym (ap Some c.in-Some-false.field-0-test) ∙ c.in-Some-false.ensures in
    c.in_ok-begun-in-Some-false.ensures ns levels k b gv
    ∙ ap (λ (o : Option Bool). decided o c.args.value.now (run_expression inner (tree_of c.args.first.now.value) k) (run_expression inner (tree_of c.args.second.now.value) k) k s b gv) has
