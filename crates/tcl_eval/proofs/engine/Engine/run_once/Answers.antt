use Rattle.std.proofs.Common.{◌∙◌}
use Rattle.natives.specs.Names.{names_of}
use Rattle.tcl_eval.specs.Eval.{nested, on_ok}
use Rattle.tcl_eval.specs.Places.{tree_of}
use Rattle.tcl_eval.specs.Engine.{state_of}
use Rattle.tcl_eval.proofs.Choices.{one_ends, one_runs, paid_none}
use Rattle.tcl_eval.proofs.engine.Engine.run_once.Goals as goal

pub returns-in-Gives-clause-means : goal.returns-in-Gives-clause-means
returns-in-Gives-clause-means g c = λ levels k gv.
    let ns = names_of c.args.natives.now in
    let t = g.H.Host.table in
    let e = c.args.self.now in
    let new = c.try_simple.new.self in
    let did = rw c.in-Gives.is at c.in_ok-value.ensures.means in
    one_runs ns t (nested ns t levels) (tree_of c.args.script.now) k (state_of e) e.budget gv _ (c.is_one_command.ensures c.if-not-is_one_command.false)
    (one_ends c.in-Gives.value k (state_of new) new.budget gv ∙ did levels (on_ok (λ v. k 0 v) k) gv)

pub returns-in-Spent-clause-means : goal.returns-in-Spent-clause-means
returns-in-Spent-clause-means g c = λ levels k gv.
    let ns = names_of c.args.natives.now in
    let t = g.H.Host.table in
    let e = c.args.self.now in
    let did = rw c.in-Spent.is at c.in_ok-value.ensures.means in
    one_runs ns t (nested ns t levels) (tree_of c.args.script.now) k (state_of e) e.budget gv _ (c.is_one_command.ensures c.if-not-is_one_command.false)
    (did levels (on_ok (λ v. k 0 v) k) gv)

pub returns-in-Left-clause-means : goal.returns-in-Left-clause-means
returns-in-Left-clause-means g c = λ levels.
    let alone = rw c.in-Left.is at c.in_ok-value.ensures.alone in
    paid_none c.try_simple.new.self c.args.self.now alone

pub returns-in-Costly-clause-means : goal.returns-in-Costly-clause-means
returns-in-Costly-clause-means g c = λ levels.
    let alone = rw c.in-Costly.is at c.in_ok-value.ensures.alone in
    paid_none c.try_simple.new.self c.args.self.now alone

pub returns-in-Evaluates-clause-means : goal.returns-in-Evaluates-clause-means
returns-in-Evaluates-clause-means g c = λ levels.
    let alone = rw c.in-Evaluates.is at c.in_ok-value.ensures.alone in
    paid_none c.try_simple.new.self c.args.self.now alone

pub returns-in-Left-clause-left : goal.returns-in-Left-clause-left
returns-in-Left-clause-left g c = rw c.in-Left.is at c.in_ok-value.ensures.alone

pub returns-in-Costly-clause-left : goal.returns-in-Costly-clause-left
returns-in-Costly-clause-left g c = rw c.in-Costly.is at c.in_ok-value.ensures.alone

pub returns-in-Evaluates-clause-left : goal.returns-in-Evaluates-clause-left
returns-in-Evaluates-clause-left g c = rw c.in-Evaluates.is at c.in_ok-value.ensures.alone
