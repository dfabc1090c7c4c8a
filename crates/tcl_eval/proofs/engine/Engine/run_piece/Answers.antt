use Rattle.std.proofs.Common.{◌∙◌, ap, List, ℕ}
use Rattle.tcl_eval.specs.Eval.{run_script, unread}
use Rattle.tcl_eval.specs.Stack.{stack_next}
use Rattle.tcl_eval.specs.Engine.{state_of}
use Rattle.tcl_eval.proofs.engine.Engine.run_piece.Goals as goal

pub returns-in_ok-acted-in-Words-clause-means : goal.returns-in_ok-acted-in-Words-clause-means
returns-in_ok-acted-in-Words-clause-means g c = λ ns opened gv.
    let t = g.H.Host.table in
    let e = c.args.self.now in
    rw c.in-Words.is (c.in_ok-acted-in-Words.ensures.means ns opened gv
    ∙ ap (λ (x : List ℕ). run_script ns t c.args.levels (unread x) (stack_next ns t e.stack.items) (state_of e) e.budget gv) c.in_ok-script-in-Words.ensures)
