use Rattle.natives.specs.Names.{names_of}
use Rattle.std.proofs.Common.{◌∙◌, ap, arith}
use Rattle.tcl_eval.specs.Stack.{step_weight, step_free}
use Rattle.tcl_eval.specs.Engine.{state_of}
use Rattle.tcl_eval.specs.declared.stack.Step.{Step}
use Rattle.tcl_eval.proofs.Counts.{held_both}
use Rattle.tcl_eval.proofs.Stacks.{weighed, freed, gave}
use Rattle.tcl_eval.proofs.engine.Engine.settle.Goals as goal

pub steps-preserved-in_ok-step-in-Pieces : goal.steps-preserved-in_ok-step-in-Pieces
steps-preserved-in_ok-step-in-Pieces g c =
    let before = rw c.in-Pieces.is at c.steps.invariant.means in
    let kept = c.in_ok-step-in-Pieces.ensures.keeps in
    record {
      means = λ gv. c.in_ok-step-in-Pieces.ensures.means gv ∙ before gv;
      keeps = (omega (arith, kept.0, c.steps.invariant.keeps.0), kept.1 ∙ c.steps.invariant.keeps.1);
      free = omega (arith, kept.2, c.steps.invariant.free, ap (λ (s : Step). step_free s) c.in-Pieces.is);
      holds = held_both c.next_piece.new.self c.steps.self c.args.self.now c.in_ok-step-in-Pieces.ensures.holds c.steps.invariant.holds;
    }

pub steps-preserved-in_ok-step-in-Bracket : goal.steps-preserved-in_ok-step-in-Bracket
steps-preserved-in_ok-step-in-Bracket g c =
    let before = rw c.in-Bracket.is at c.steps.invariant.means in
    let kept = c.in_ok-step-in-Bracket.ensures.keeps in
    record {
      means = λ gv. c.in_ok-step-in-Bracket.ensures.means gv ∙ before gv;
      keeps = (omega (arith, kept.0, c.steps.invariant.keeps.0), kept.1 ∙ c.steps.invariant.keeps.1);
      free = omega (arith, kept.2, c.steps.invariant.free, ap (λ (s : Step). step_free s) c.in-Bracket.is);
      holds = held_both c.enter_lone.new.self c.steps.self c.args.self.now c.in_ok-step-in-Bracket.ensures.holds c.steps.invariant.holds;
    }

pub steps-preserved : goal.steps-preserved
steps-preserved g c =
    let t = g.H.Host.table in
    let e = c.steps.self in
    let before = rw c.in-Value.is at c.steps.invariant.means in
    let kept = c.in_ok-step-in-Some.ensures.keeps in
    record {
      means = λ gv. gave (names_of c.args.natives.now) t e.stack.items c.pop.new.self.items c.in-Some.frame c.in-Value.value.code c.in-Value.value.result (state_of e) e.budget gv _ _ c.in-Some.ensures.items (c.in_ok-step-in-Some.ensures.means gv) (before gv);
      keeps = (omega (arith, kept.0, c.steps.invariant.keeps.0), kept.1 ∙ c.steps.invariant.keeps.1);
      free = omega (arith, freed _ _ _ c.in-Some.ensures.items, c.in_ok-step-in-Some.ensures.free, c.steps.invariant.free, ap (λ (s : Step). step_free s) c.in-Value.is);
      holds = held_both c.give.new.self e c.args.self.now c.in_ok-step-in-Some.ensures.holds c.steps.invariant.holds;
    }

pub steps-smaller : goal.steps-smaller
steps-smaller g c =
    let e = weighed _ _ _ c.in-Some.ensures.items in
    omega (arith, e, c.in_ok-step-in-Some.ensures.falls, ap (λ (s : Step). step_weight s) c.in-Value.is)
