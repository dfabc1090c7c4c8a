use Rattle.std.proofs.Common.{◌∙◌, ap, List, ℕ}
use Rattle.tcl_eval.specs.State.{Next}
use Rattle.tcl_eval.specs.Eval.{run_script, unread, catch_end}
use Rattle.tcl_eval.specs.Stack.{stack_next}
use Rattle.tcl_eval.specs.Engine.{state_of}
use Rattle.tcl_eval.specs.declared.stack.Frame.TheVariants.{Caught}
use Rattle.tcl_eval.proofs.Stacks.{pushed}
use Rattle.tcl_eval.proofs.engine.Engine.catch_script.Goals as goal

pub returns-clause-means : goal.returns-clause-means
returns-clause-means g c = λ ns opened gv.
    let t = g.H.Host.table in
    let e = c.args.self.now in
    c.in_ok-acted.ensures.means ns opened gv
    ∙ ap (λ (k : Next g.row.H.Denot). run_script ns t c.args.levels (unread c.in_ok-text.text) k (state_of e) e.budget gv) (pushed ns t e.stack.items c.push.new.self.items (Caught c.args.name) c.in_ok-push.ensures.items)
    ∙ ap (λ (x : List ℕ). run_script ns t c.args.levels (unread x) (catch_end c.args.name (stack_next ns t e.stack.items)) (state_of e) e.budget gv) c.in_ok-text.ensures
