use Rattle.tcl_eval.proofs.engine.Engine.expr_begun.Goals as goal

pub returns-clause-means : goal.returns-clause-means
returns-clause-means g c = rw (c.deref.ensures, c.in_ok-read.ensures.means, c.behind_name.ensures) at c.in_ok-found.ensures
