use Rattle.std.proofs.Common.{◌∙◌, ◌+◌, ◌-◌, ap}
use Rattle.tcl_expr.specs.View.{tree_of}
use Rattle.tcl_eval.specs.Eval.{command_end, give, nested}
use Rattle.tcl_eval.specs.Expressions.{run_expression, value_end}
use Rattle.tcl_eval.specs.Engine.{state_of}
use Rattle.tcl_eval.specs.declared.stack.Ended.{Ended}
use Rattle.tcl_eval.proofs.Commands.{whole_gives}
use Rattle.tcl_eval.proofs.Evaluations.{paid_in_turn}
use Rattle.tcl_eval.proofs.OneBracket.{done_alone}
use Rattle.tcl_eval.proofs.engine.Engine.try_begun.Goals as goal

pub returns-in-Part-clause-means : goal.returns-in-Part-clause-means
returns-in-Part-clause-means g c =
    rw c.in-Part.is (λ ns levels ws k gv.
    paid_in_turn c.args.cost c.args.self.now.budget (run_expression (nested ns g.H.Host.table levels) (tree_of c.in-Part.expr.value) (value_end (command_end k))) (state_of c.args.self.now) gv c.requires)

pub returns-in_ok-tried-in-Gives-clause-means : goal.returns-in_ok-tried-in-Gives-clause-means
returns-in_ok-tried-in-Gives-clause-means g c =
    let t = g.H.Host.table in
    let e = c.args.self.now in
    rw c.in-Gives.is (λ ns levels ws k gv.
    c.in_ok-tried-in-Gives.ensures.means ns (nested ns t levels) ws k gv
    ∙ ap (λ (v : Ended). give v (command_end k) (state_of e) (e.budget - (c.args.cost + 1)) gv) c.in_ok-ended-in-Gives.ensures
    ∙ whole_gives ns t c.in-Gives.value.code c.in-Gives.value.result (command_end k) (state_of e) (e.budget - (c.args.cost + 1)) gv)

pub returns-in_ok-tried-in-Gives-clause-alone : goal.returns-in_ok-tried-in-Gives-clause-alone
returns-in_ok-tried-in-Gives-clause-alone g c =
    done_alone c.in_ok-tried-in-Gives.tried c.pay_tried.new.self c.args.self.now c.in_ok-tried-in-Gives.ensures.done
