use Rattle.tcl_eval.specs.Eval.{nested}
use Rattle.tcl_eval.specs.Engine.{state_of}
use Rattle.std.proofs.Common.{arith}
use Rattle.tcl_eval.proofs.Expressions.{expr_step}
use Rattle.tcl_eval.proofs.engine.Engine.do_expr.Goals as goal

pub returns-clause-means : goal.returns-clause-means
returns-clause-means g c = λ ns opened gv.
    let t = g.H.Host.table in
    let e = c.args.self.now in
    expr_step ns t (nested ns t c.args.levels) e.stack.items c.push.new.self.items c.args.words.now _ c.in_ok-text.text (state_of e) e.budget gv _ (omega (arith, c.len.ensures, c.if-len-lt2.false)) c.in_ok-push.ensures.items c.in_ok-text.ensures c.behind_name.ensures (c.in_ok-acted.ensures.means ns opened gv)
