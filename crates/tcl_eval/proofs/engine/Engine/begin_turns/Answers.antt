use Rattle.tcl_eval.specs.Engine.{state_of}
use Rattle.tcl_eval.proofs.Looping.{turns_pushed}
use Rattle.tcl_eval.proofs.engine.Engine.begin_turns.Goals as goal

pub returns-clause-means : goal.returns-clause-means
returns-clause-means g c = λ ns opened gv.
    let e = c.args.self.now in
    turns_pushed ns g.H.Host.table e.stack.items c.push.new.self.items c.in_ok-turning.turning c.args.turning e.budget c.args.levels c.done.result (state_of e) e.budget gv c.in_ok-push.ensures.items c.in_ok-turning.ensures.ok c.done.ensures
