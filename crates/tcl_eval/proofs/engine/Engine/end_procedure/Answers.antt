use Rattle.std.proofs.Common.{ap, arith}
use Rattle.tcl_eval.specs.Eval.{give, proc_end}
use Rattle.tcl_eval.specs.Stack.{stack_weight}
use Rattle.tcl_eval.proofs.Commands.{alike_same}
use Rattle.tcl_eval.proofs.engine.Engine.end_procedure.Goals as goal

pub returns-clause-means : goal.returns-clause-means
returns-clause-means g c = λ ns gv.
    alike_same ns g.H.Host.table c.end_body.new.self c.args.self.now (give c.in_ok-after.after) (λ k. proc_end k c.args.value.code c.args.value.result) c.in_ok-after.ensures.means c.in_ok-after.ensures.straight.2 gv

pub returns-clause-falls : goal.returns-clause-falls
returns-clause-falls g c =
    let same = ap (λ stack. stack_weight stack.items) c.in_ok-after.ensures.straight.2 in
    omega (arith, same)
