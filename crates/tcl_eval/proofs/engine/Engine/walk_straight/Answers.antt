use Rattle.std.proofs.Common.{◌≡◌, ◌∙◌, ℕ, suc, ◌-◌, drop, length, sym, ap, arith}
use Rattle.natives.specs.Names.{names_of}
use Rattle.tcl_eval.specs.Eval.{give, nested}
use Rattle.tcl_eval.specs.Loops.{walk_on}
use Rattle.tcl_eval.specs.Engine.{state_of}
use Rattle.tcl_eval.specs.declared.stack.Ended.{Ended}
use Rattle.tcl_eval.proofs.Counts.{held_both}
use Rattle.tcl_eval.proofs.Turns.{behind_turn}
use Rattle.tcl_eval.proofs.Looping.{walk_turn}
use Rattle.tcl_eval.proofs.engine.Engine.walk_straight.Goals as goal

pub turns-preserved : goal.turns-preserved
turns-preserved g c =
    let ns = names_of c.args.natives.now in
    let t = g.H.Host.table in
    let inner = nested ns t c.args.levels in
    let walk = c.args.walk.now in
    let e = c.turns.self in
    let l : c.turns.left ≡ suc (c.turns.left - 1) = omega arith in
    let next = c.place_behind-at.result in
    let behind = behind_turn walk.values c.turns.at (length walk.names) next (omega (arith, c.place_behind-at.ensures, c.len.ensures, c.len-in-turns.ensures)) in
    let did = rw c.in-None.is at c.in_ok-each_straight.ensures.means in
    let straight = c.in_ok-each_straight.ensures.straight in
    let before = c.turns.invariant.straight in
    record {
      means = λ k gv. did (walk_on inner walk.names walk.body (c.turns.left - 1) (drop next walk.values) k) k gv
          ∙ walk_turn ns t walk c.turns.at next c.turns.left (c.turns.left - 1) c.args.levels k (state_of e) e.budget gv l behind
          ∙ c.turns.invariant.means k gv;
      straight = (omega (arith, straight.0, before.0), straight.1 ∙ before.1, straight.2 ∙ before.2);
      holds = held_both c.each_straight.new.self e c.args.self.now c.in_ok-each_straight.ensures.holds c.turns.invariant.holds;
    }

pub returns-in-Some-clause-means : goal.returns-in-Some-clause-means
returns-in-Some-clause-means g c = λ k gv.
    let ns = names_of c.args.natives.now in
    let t = g.H.Host.table in
    let inner = nested ns t c.args.levels in
    let walk = c.args.walk.now in
    let e = c.turns.self in
    let l : c.turns.left ≡ suc (c.turns.left - 1) = omega arith in
    let next = c.place_behind-at.result in
    let behind = behind_turn walk.values c.turns.at (length walk.names) next (omega (arith, c.place_behind-at.ensures, c.len.ensures, c.len-in-turns.ensures)) in
    let did = rw c.in-Some.is at c.in_ok-each_straight.ensures.means in
    did (walk_on inner walk.names walk.body (c.turns.left - 1) (drop next walk.values) k) k gv
    ∙ walk_turn ns t walk c.turns.at next c.turns.left (c.turns.left - 1) c.args.levels k (state_of e) e.budget gv l behind
    ∙ c.turns.invariant.means k gv

pub returns-clause-means : goal.returns-clause-means
returns-clause-means g c = λ k gv.
    let inner = nested (names_of c.args.natives.now) g.H.Host.table c.args.levels in
    let walk = c.args.walk.now in
    let e = c.turns.self in
    let none : c.turns.left ≡ 0 = omega arith in
    ap (λ (v : Ended). give v k (state_of e) e.budget gv) c.done.ensures
    ∙ sym (ap (λ (n : ℕ). walk_on inner walk.names walk.body n (drop c.turns.at walk.values) k (state_of e) e.budget gv) none)
    ∙ c.turns.invariant.means k gv
