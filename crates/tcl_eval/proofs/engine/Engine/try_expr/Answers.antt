use Rattle.std.proofs.Common.{◌∙◌, ◌+◌, ◌-◌, length, arith}
use Rattle.tcl_eval.specs.Eval.{command_end, nested}
use Rattle.tcl_eval.specs.Expressions.{value_end}
use Rattle.tcl_eval.specs.Engine.{state_of}
use Rattle.tcl_eval.specs.Places.{words_from}
use Rattle.tcl_eval.proofs.Commands.{expr_paid}
use Rattle.tcl_eval.proofs.engine.Engine.try_expr.Goals as goal

pub returns-in_ok-tried-in-Some-clause-means : goal.returns-in_ok-tried-in-Some-clause-means
returns-in_ok-tried-in-Some-clause-means g c = λ ns levels ws called none k gv.
    let t = g.H.Host.table in
    let e = c.args.self.now in
    let inner = nested ns t levels in
    let cost = c.cost-cost.result + 1 in
    let same = c.in_ok-expr_begun.ensures.same in
    let found = rw (c.in-Some.is, c.words.ensures, same) at c.in_ok-expr_begun.ensures.means in
    let paid = rw same at c.in_ok-tried-in-Some.ensures.means in
    expr_paid ns t inner c.args.values (words_from (length c.args.values) ws) k (state_of e) e.budget cost gv _ called.0 called.1.0 called.1.1 called.1.2
    (omega (arith, c.len.ensures, c.if-len-lt2.false)) (omega (arith, c.cost-cost.ensures)) (omega (arith, c.saturating_add-whole.ensures, c.if-self-whole.false)) none
    (paid ns levels ws k gv ∙ found ns levels (value_end (command_end k)) (e.budget - cost) gv)

pub returns-in_ok-tried-in-Some-clause-alone : goal.returns-in_ok-tried-in-Some-clause-alone
returns-in_ok-tried-in-Some-clause-alone g c = rw c.in_ok-expr_begun.ensures.same at c.in_ok-tried-in-Some.ensures.alone
