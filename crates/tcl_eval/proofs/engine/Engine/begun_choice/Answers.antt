use Rattle.std.proofs.Common.{◌∙◌}
use Rattle.tcl_expr.specs.View.{tree_of}
use Rattle.tcl_eval.specs.Engine.{state_of}
use Rattle.tcl_eval.proofs.Evaluations.{choice_tested}
use Rattle.tcl_eval.proofs.engine.Engine.begun_choice.Goals as goal

pub returns-in_ok-begun-in-Some : goal.returns-in_ok-begun-in-Some
returns-in_ok-begun-in-Some g c = λ ns levels k b gv.
    let found = rw (c.in-Some.is, c.deref.ensures) at c.in_ok-simple_value.ensures in
    choice_tested ns g.H.Host.table levels (tree_of c.args.test.now.value) (tree_of c.args.first.now.value) (tree_of c.args.second.now.value) c.in-Some.value k (state_of c.args.self.now) b gv _ found (c.in_ok-begun-in-Some.ensures ns levels k b gv)
