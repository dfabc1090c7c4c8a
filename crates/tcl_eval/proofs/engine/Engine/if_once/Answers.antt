use Rattle.std.proofs.Common.{suc, ap, Option}
use Rattle.natives.specs.Names.{names_of}
use Rattle.tcl_eval.specs.Branches.{choose, choose_of, do_if}
use Rattle.tcl_eval.specs.Eval.{nested}
use Rattle.tcl_eval.specs.declared.branch.Branches.{Branches}
use Rattle.tcl_eval.proofs.Choices.{came_same}
use Rattle.tcl_eval.proofs.engine.Engine.if_once.Goals as goal

pub returns-in_ok-once-in-Some-clause-means : goal.returns-in_ok-once-in-Some-clause-means
returns-in_ok-once-in-Some-clause-means g c = λ levels.
    let ns = names_of c.args.natives.now in
    let t = g.H.Host.table in
    let inner = nested ns t (suc levels) in
    let words = c.args.words.now in
    let all = c.in-Some.branches in
    let found = rw (c.in-Some.is, c.behind_name.ensures) at c.in_ok-read_branches.ensures in
    came_same c.in_ok-once-in-Some.once c.choose_once.new.self c.args.self.now (choose inner all.clauses all.last) (do_if inner words)
    (λ k s b gv. ap (λ (o : Option Branches). choose_of inner o words k s b gv) found)
    (c.in_ok-once-in-Some.ensures.means levels)
