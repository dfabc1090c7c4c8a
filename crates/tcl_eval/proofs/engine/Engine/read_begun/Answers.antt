use Rattle.tcl_expr.specs.View.{tree_of}
use Rattle.tcl_eval.specs.Eval.{nested}
use Rattle.tcl_eval.specs.Engine.{state_of}
use Rattle.tcl_eval.proofs.Evaluations.{read_begins}
use Rattle.tcl_eval.proofs.engine.Engine.read_begun.Goals as goal

pub returns-in_ok-begun-in-Good : goal.returns-in_ok-begun-in-Good
returns-in_ok-begun-in-Good g c = λ ns levels k b gv.
    let t = g.H.Host.table in
    let reads = rw c.in-Good.is at c.reading.ensures in
    read_begins ns t (nested ns t levels) c.args.read.now (tree_of c.in-Good.expr.value) c.in_ok-begun-in-Good.begun k (state_of c.args.self.now) b gv reads (c.in_ok-begun-in-Good.ensures ns levels k b gv)
