use Rattle.tcl_expr.specs.View.{tree_of}
use Rattle.tcl_eval.specs.Engine.{state_of}
use Rattle.tcl_eval.proofs.Evaluations.{test_good, test_other}
use Rattle.tcl_eval.proofs.engine.Engine.begun_behind.Goals as goal

pub returns-then-value-ne-OK : goal.returns-then-value-ne-OK
returns-then-value-ne-OK g c = λ ns levels k b gv.
    test_other ns g.H.Host.table levels (tree_of c.args.first.now.value) (tree_of c.args.second.now.value) c.args.value k (state_of c.args.self.now) b gv c.if-value-ne-OK.true

pub returns : goal.returns
returns g c = λ ns levels k b gv.
    test_good ns g.H.Host.table levels (tree_of c.args.first.now.value) (tree_of c.args.second.now.value) c.args.value k (state_of c.args.self.now) b gv _ c.if-value-ne-OK.false (c.in_ok-begun.ensures ns levels k b gv)
