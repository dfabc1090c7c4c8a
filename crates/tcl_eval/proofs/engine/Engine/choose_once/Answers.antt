use Rattle.std.proofs.Common.{suc}
use Rattle.natives.specs.Names.{names_of}
use Rattle.tcl_eval.specs.Branches.{choose}
use Rattle.tcl_eval.specs.Eval.{nested, run_script, unread}
use Rattle.tcl_eval.proofs.Choices.{came_behind}
use Rattle.tcl_eval.proofs.engine.Engine.choose_once.Goals as goal

pub returns-in-Ends-clause-means : goal.returns-in-Ends-clause-means
returns-in-Ends-clause-means g c = λ levels.
    let did = rw c.in-Ends.is at c.in_ok-value.ensures.means in
    did (names_of c.args.natives.now) (suc levels)

pub returns-in-Spent-clause-means : goal.returns-in-Spent-clause-means
returns-in-Spent-clause-means g c = λ levels.
    let did = rw c.in-Spent.is at c.in_ok-value.ensures.means in
    did (names_of c.args.natives.now) (suc levels)

pub returns-in-Body-clause-means : goal.returns-in-Body-clause-means
returns-in-Body-clause-means g c = λ levels.
    let ns = names_of c.args.natives.now in
    let t = g.H.Host.table in
    let all = c.args.branches.now in
    let did = rw c.in-Body.is at c.in_ok-value.ensures.means in
    came_behind c.in_ok-once-in-Body.once c.body_once.new.self c.choose_straight.new.self c.args.self.now
    (run_script ns t (suc levels) (unread c.in-Body.body.now)) (choose (nested ns t (suc levels)) all.clauses all.last)
    (did ns (suc levels)) c.in_ok-value.ensures.rest (c.in_ok-once-in-Body.ensures.means levels)
