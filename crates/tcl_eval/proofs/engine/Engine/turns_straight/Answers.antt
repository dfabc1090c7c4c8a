use Rattle.std.proofs.Common.{◌≡◌, ◌∙◌, ℕ, suc, ◌-◌, sym, ap, arith}
use Rattle.natives.specs.Names.{names_of}
use Rattle.tcl_eval.specs.Eval.{nested}
use Rattle.tcl_eval.specs.Loops.{turns}
use Rattle.tcl_eval.specs.Engine.{state_of}
use Rattle.tcl_eval.proofs.Counts.{held_both}
use Rattle.tcl_eval.proofs.engine.Engine.turns_straight.Goals as goal

pub turns-preserved : goal.turns-preserved
turns-preserved g c =
    let inner = nested (names_of c.args.natives.now) g.H.Host.table c.args.levels in
    let e = c.turns.self in
    let l : c.turns.left ≡ suc (c.turns.left - 1) = omega arith in
    let did = rw c.in-None.is at c.in_ok-turn_straight.ensures.means in
    let straight = c.in_ok-turn_straight.ensures.straight in
    let before = c.turns.invariant.straight in
    record {
      means = λ k gv. did (turns inner c.args.turning.now (c.turns.left - 1) k) k gv
          ∙ sym (ap (λ (n : ℕ). turns inner c.args.turning.now n k (state_of e) e.budget gv) l)
          ∙ c.turns.invariant.means k gv;
      straight = (omega (arith, straight.0, before.0), straight.1 ∙ before.1, straight.2 ∙ before.2);
      holds = held_both c.turn_straight.new.self e c.args.self.now c.in_ok-turn_straight.ensures.holds c.turns.invariant.holds;
    }

pub returns-in-Some-clause-means : goal.returns-in-Some-clause-means
returns-in-Some-clause-means g c = λ k gv.
    let inner = nested (names_of c.args.natives.now) g.H.Host.table c.args.levels in
    let e = c.turns.self in
    let l : c.turns.left ≡ suc (c.turns.left - 1) = omega arith in
    let did = rw c.in-Some.is at c.in_ok-turn_straight.ensures.means in
    did (turns inner c.args.turning.now (c.turns.left - 1) k) k gv
    ∙ sym (ap (λ (n : ℕ). turns inner c.args.turning.now n k (state_of e) e.budget gv) l)
    ∙ c.turns.invariant.means k gv

pub returns-clause-means : goal.returns-clause-means
returns-clause-means g c = λ k gv.
    let inner = nested (names_of c.args.natives.now) g.H.Host.table c.args.levels in
    let e = c.turns.self in
    let none : c.turns.left ≡ 0 = omega arith in
    sym (ap (λ (n : ℕ). turns inner c.args.turning.now n k (state_of e) e.budget gv) none)
    ∙ c.turns.invariant.means k gv
