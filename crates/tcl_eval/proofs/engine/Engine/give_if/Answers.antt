use Rattle.std.proofs.Common.{◌∙◌, [], drop, None}
use Rattle.tcl_eval.specs.Branches.{choose}
use Rattle.tcl_eval.specs.Eval.{nested, unread}
use Rattle.tcl_eval.specs.Stack.{stack_next}
use Rattle.tcl_eval.specs.Engine.{state_of}
use Rattle.tcl_eval.proofs.Looping.{goes_on}
use Rattle.tcl_eval.proofs.engine.Engine.give_if.Goals as goal

pub returns-in-Holds-clause-means : goal.returns-in-Holds-clause-means
returns-in-Holds-clause-means g c = λ ns gv.
    let t = g.H.Host.table in
    let inner = nested ns t c.args.levels in
    let old = c.args.self.now in
    let new = c.enter_text.new.self in
    let branches = c.args.branches.value in
    let top = stack_next ns t old.stack.items in
    let test = rw c.in-Holds.is at c.in_ok-tested.ensures.means in
    goes_on ns t c.in_ok-acted-in-Holds.acted _ _ (stack_next ns t new.stack.items) (state_of new) new.budget gv _ c.gone_from.ensures c.in_ok-acted-in-Holds.ensures.enters
    (c.in_ok-acted-in-Holds.ensures.means ns None gv
    ∙ test inner [] (inner.run (unread c.args.body) top) (choose inner (drop c.args.next branches.clauses) branches.last top) top (state_of old) old.budget gv)

pub returns-in-Fails-clause-means : goal.returns-in-Fails-clause-means
returns-in-Fails-clause-means g c = λ ns gv.
    let t = g.H.Host.table in
    let inner = nested ns t c.args.levels in
    let old = c.args.self.now in
    let new = c.choose.new.self in
    let branches = c.args.branches.value in
    let top = stack_next ns t old.stack.items in
    let test = rw c.in-Fails.is at c.in_ok-tested.ensures.means in
    goes_on ns t c.in_ok-acted-in-Fails.acted _ _ (stack_next ns t new.stack.items) (state_of new) new.budget gv _ c.gone_from-in-Fails.ensures c.in_ok-acted-in-Fails.ensures.enters
    (c.in_ok-acted-in-Fails.ensures.means ns None gv
    ∙ test inner [] (inner.run (unread c.args.body) top) (choose inner (drop c.args.next branches.clauses) branches.last top) top (state_of old) old.budget gv)

pub returns-in-Ends-clause-means : goal.returns-in-Ends-clause-means
returns-in-Ends-clause-means g c = λ ns gv.
    let t = g.H.Host.table in
    let inner = nested ns t c.args.levels in
    let old = c.args.self.now in
    let branches = c.args.branches.value in
    let top = stack_next ns t old.stack.items in
    let test = rw c.in-Ends.is at c.in_ok-tested.ensures.means in
    test inner [] (inner.run (unread c.args.body) top) (choose inner (drop c.args.next branches.clauses) branches.last top) top (state_of old) old.budget gv
