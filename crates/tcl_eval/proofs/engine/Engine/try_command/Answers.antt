use Rattle.natives.specs.Names.{names_of}
use Rattle.tcl_eval.proofs.OneBracket.{done_alone}
use Rattle.tcl_eval.proofs.engine.Engine.try_command.Goals as goal

pub returns-in_ok-tried-in-Expr-clause-means : goal.returns-in_ok-tried-in-Expr-clause-means
returns-in_ok-tried-in-Expr-clause-means g c = λ levels ws none.
    let ns = names_of c.args.natives.now in
    let same = rw c.in-Expr.is at c.in_ok-straight_value.ensures.left in
    let called = rw (c.in-Expr.is, c.words.ensures) at c.in_ok-straight_value.ensures.expr in
    let did = rw same at c.in_ok-tried-in-Expr.ensures.means in
    did ns levels ws called none

pub returns-in_ok-tried-in-Expr-clause-alone : goal.returns-in_ok-tried-in-Expr-clause-alone
returns-in_ok-tried-in-Expr-clause-alone g c =
    let same = rw c.in-Expr.is at c.in_ok-straight_value.ensures.left in
    rw same at c.in_ok-tried-in-Expr.ensures.alone

pub returns-in_ok-tried-in-Gives-clause-alone : goal.returns-in_ok-tried-in-Gives-clause-alone
returns-in_ok-tried-in-Gives-clause-alone g c =
    done_alone c.in_ok-tried-in-Gives.tried c.pay_tried.new.self c.args.self.now c.in_ok-tried-in-Gives.ensures.done
