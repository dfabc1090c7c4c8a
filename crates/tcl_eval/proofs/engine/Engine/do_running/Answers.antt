use Rattle.tcl_eval.proofs.Acts.{host_verb}
use Rattle.tcl_eval.proofs.engine.Engine.do_running.Goals as goal
use Rattle.tcl_eval.proofs.engine.Engine.do_running.Goals.{in-Eval+in_ok-acted-in-Eval, in-Catch+in_ok-acted-in-Catch, in-Expr+in_ok-acted-in-Expr, in-If+in_ok-acted-in-If, in-While+in_ok-acted-in-While, in-For+in_ok-acted-in-For, in-Foreach+in_ok-acted-in-Foreach, in-Switch+in_ok-acted-in-Switch, in_default+in_ok-acted-in_default}

pub returns-clause-means : goal.returns-clause-means
returns-clause-means g c = λ ns gv.
    elim c.match-verb.branch [
      | in-Eval+in_ok-acted-in-Eval w ↦ rw (w.in-Eval.is, w.self-is, w.acted-is) (w.in_ok-acted-in-Eval.ensures.means ns _ gv)
      | in-Catch+in_ok-acted-in-Catch w ↦ rw (w.in-Catch.is, w.self-is, w.acted-is) (w.in_ok-acted-in-Catch.ensures.means ns _ gv)
      | in-Expr+in_ok-acted-in-Expr w ↦ rw (w.in-Expr.is, w.self-is, w.acted-is) (w.in_ok-acted-in-Expr.ensures.means ns _ gv)
      | in-If+in_ok-acted-in-If w ↦ rw (w.in-If.is, w.self-is, w.acted-is) (w.in_ok-acted-in-If.ensures.means ns _ gv)
      | in-While+in_ok-acted-in-While w ↦ rw (w.in-While.is, w.self-is, w.acted-is) (w.in_ok-acted-in-While.ensures.means ns _ gv)
      | in-For+in_ok-acted-in-For w ↦ rw (w.in-For.is, w.self-is, w.acted-is) (w.in_ok-acted-in-For.ensures.means ns _ gv)
      | in-Foreach+in_ok-acted-in-Foreach w ↦ rw (w.in-Foreach.is, w.self-is, w.acted-is) (w.in_ok-acted-in-Foreach.ensures.means ns _ gv)
      | in-Switch+in_ok-acted-in-Switch w ↦ rw (w.in-Switch.is, w.self-is, w.acted-is) (w.in_ok-acted-in-Switch.ensures.means ns _ gv)
      | in_default+in_ok-acted-in_default w ↦
          rw (host_verb c.args.verb c.requires w.in_default.not-Eval w.in_default.not-Catch w.in_default.not-Expr w.in_default.not-If w.in_default.not-While w.in_default.not-For w.in_default.not-Foreach w.in_default.not-Switch, w.self-is, w.acted-is) (w.in_ok-acted-in_default.ensures.means ns gv)
    ]
