use Rattle.std.proofs.Common.{◌∙◌, ◌+◌, ℕ, List, Some, None, drop, refl, sym, ap, arith}
use Rattle.std.proofs.lemmas.Option.{slice_get_within}
use Rattle.tcl_eval.specs.Branches.{choose}
use Rattle.tcl_eval.specs.Eval.{give, nested, unread}
use Rattle.tcl_eval.specs.declared.stack.Ended.{Ended}
use Rattle.tcl_eval.specs.Engine.{state_of}
use Rattle.tcl_eval.proofs.Branches.{choose_last, choose_tested, dropped}
use Rattle.tcl_eval.proofs.Choices.{paid_both}
use Rattle.tcl_eval.proofs.Counts.{held_both}
use Rattle.tcl_eval.proofs.engine.Engine.choose_straight.Goals as goal

pub conditions-preserved : goal.conditions-preserved
conditions-preserved g c =
    let e = c.conditions.self in
    let new = c.test_straight.new.self in
    let all = c.args.branches.now in
    let at = c.conditions.at in
    let clause = c.in-Some.clause.now in
    let did = rw c.in-Fails.is at c.in_ok-test_straight.ensures.means in
    let straight = c.in_ok-test_straight.ensures.straight in
    let before = c.conditions.invariant.straight in
    let past = rw c.len.ensures at c.place_behind-at.ensures in
    record {
      means = λ ns levels k gv.
          let inner = nested ns g.H.Host.table levels in
          ap (λ (cs : List (List ℕ × List ℕ)). choose inner cs all.last k (state_of new) new.budget gv) (dropped all.clauses at 1 _ past)
          ∙ choose_tested ns g.H.Host.table inner all clause _ at k (state_of e) e.budget gv _ c.in-Some.ensures (c.deref.ensures ∙ c.in_ok-condition.ensures) (did ns levels (choose inner (drop (at + 1) all.clauses) all.last k) (inner.run (unread clause.1) k) k gv)
          ∙ c.conditions.invariant.means ns levels k gv;
      rest = paid_both new e c.args.self.now c.in_ok-test_straight.ensures.rest c.conditions.invariant.rest;
      straight = (omega (arith, straight.0, before.0), straight.1 ∙ before.1, straight.2 ∙ before.2);
      holds = held_both new e c.args.self.now c.in_ok-test_straight.ensures.holds c.conditions.invariant.holds;
    }

pub conditions-smaller : goal.conditions-smaller
conditions-smaller g c =
    let within = slice_get_within c.args.branches.now.clauses c.conditions.at c.in-Some.clause.now (sym c.in-Some.ensures) in
    let past = rw c.len.ensures at c.place_behind-at.ensures in
    omega (arith, within, past)

pub returns-in-Holds-clause-means : goal.returns-in-Holds-clause-means
returns-in-Holds-clause-means g c = λ ns levels k gv.
    let e = c.conditions.self in
    let inner = nested ns g.H.Host.table levels in
    let all = c.args.branches.now in
    let at = c.conditions.at in
    let clause = c.in-Some.clause.now in
    let did = rw c.in-Holds.is at c.in_ok-test_straight.ensures.means in
    choose_tested ns g.H.Host.table inner all clause _ at k (state_of e) e.budget gv _ c.in-Some.ensures (c.deref.ensures ∙ c.in_ok-condition.ensures) (did ns levels (choose inner (drop (at + 1) all.clauses) all.last k) (inner.run (unread clause.1) k) k gv)
    ∙ c.conditions.invariant.means ns levels k gv

pub returns-in-Ends-clause-means : goal.returns-in-Ends-clause-means
returns-in-Ends-clause-means g c = λ ns levels k gv.
    let e = c.conditions.self in
    let inner = nested ns g.H.Host.table levels in
    let all = c.args.branches.now in
    let at = c.conditions.at in
    let clause = c.in-Some.clause.now in
    let did = rw c.in-Ends.is at c.in_ok-test_straight.ensures.means in
    choose_tested ns g.H.Host.table inner all clause _ at k (state_of e) e.budget gv _ c.in-Some.ensures (c.deref.ensures ∙ c.in_ok-condition.ensures) (did ns levels (choose inner (drop (at + 1) all.clauses) all.last k) (inner.run (unread clause.1) k) k gv)
    ∙ c.conditions.invariant.means ns levels k gv

pub returns-in-Spent-clause-means : goal.returns-in-Spent-clause-means
returns-in-Spent-clause-means g c = λ ns levels k gv.
    let e = c.conditions.self in
    let inner = nested ns g.H.Host.table levels in
    let all = c.args.branches.now in
    let at = c.conditions.at in
    let clause = c.in-Some.clause.now in
    let did = rw c.in-Spent.is at c.in_ok-test_straight.ensures.means in
    choose_tested ns g.H.Host.table inner all clause _ at k (state_of e) e.budget gv _ c.in-Some.ensures (c.deref.ensures ∙ c.in_ok-condition.ensures) (did ns levels (choose inner (drop (at + 1) all.clauses) all.last k) (inner.run (unread clause.1) k) k gv)
    ∙ c.conditions.invariant.means ns levels k gv

pub returns-in-Left-clause-means : goal.returns-in-Left-clause-means
returns-in-Left-clause-means g c = λ ns levels k gv.
    let e = c.conditions.self in
    let new = c.test_straight.new.self in
    let inner = nested ns g.H.Host.table levels in
    let all = c.args.branches.now in
    let at = c.conditions.at in
    let clause = c.in-Some.clause.now in
    let same = c.deref.ensures ∙ c.in_ok-condition.ensures in
    let did = rw c.in-Left.is at c.in_ok-test_straight.ensures.means in
    sym (choose_tested ns g.H.Host.table inner all clause _ at k (state_of new) new.budget gv _ c.in-Some.ensures same refl)
    ∙ choose_tested ns g.H.Host.table inner all clause _ at k (state_of e) e.budget gv _ c.in-Some.ensures same (did ns levels (choose inner (drop (at + 1) all.clauses) all.last k) (inner.run (unread clause.1) k) k gv)
    ∙ c.conditions.invariant.means ns levels k gv

pub returns-in-Left-clause-asks : goal.returns-in-Left-clause-asks
returns-in-Left-clause-asks g c =
    let clause = c.in-Some.clause.now in
    sym c.in-Some.ensures ∙ ap (λ (x : List ℕ). Some (x, clause.1)) (sym c.in_ok-condition.ensures)

pub returns-in-None-clause-means : goal.returns-in-None-clause-means
returns-in-None-clause-means g c = λ ns levels k gv.
    let e = c.conditions.self in
    let inner = nested ns g.H.Host.table levels in
    let all = c.args.branches.now in
    choose_last ns g.H.Host.table inner all c.conditions.at None k (state_of e) e.budget gv _ c.in_default.ensures (sym c.in-None.is) (ap (λ (v : Ended). give v k (state_of e) e.budget gv) c.done.ensures)
    ∙ c.conditions.invariant.means ns levels k gv

pub returns-in-Some-last-clause-means : goal.returns-in-Some-last-clause-means
returns-in-Some-last-clause-means g c = λ ns levels k gv.
    let e = c.conditions.self in
    let inner = nested ns g.H.Host.table levels in
    let all = c.args.branches.now in
    choose_last ns g.H.Host.table inner all c.conditions.at (Some c.in-Some-last.body) k (state_of e) e.budget gv _ c.in_default.ensures (sym c.in-Some-last.is) refl
    ∙ c.conditions.invariant.means ns levels k gv

pub returns-in-Holds-clause-rest : goal.returns-in-Holds-clause-rest
returns-in-Holds-clause-rest g c = paid_both c.test_straight.new.self c.conditions.self c.args.self.now c.in_ok-test_straight.ensures.rest c.conditions.invariant.rest

pub returns-in-Ends-clause-rest : goal.returns-in-Ends-clause-rest
returns-in-Ends-clause-rest g c = paid_both c.test_straight.new.self c.conditions.self c.args.self.now c.in_ok-test_straight.ensures.rest c.conditions.invariant.rest

pub returns-in-Spent-clause-rest : goal.returns-in-Spent-clause-rest
returns-in-Spent-clause-rest g c = paid_both c.test_straight.new.self c.conditions.self c.args.self.now c.in_ok-test_straight.ensures.rest c.conditions.invariant.rest

pub returns-in-Left-clause-rest : goal.returns-in-Left-clause-rest
returns-in-Left-clause-rest g c = paid_both c.test_straight.new.self c.conditions.self c.args.self.now c.in_ok-test_straight.ensures.rest c.conditions.invariant.rest
