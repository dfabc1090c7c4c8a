use Rattle.std.proofs.Common.{◌≡◌, refl, sym, subst, ap, ◌∙◌}
use Rattle.tcl_eval.specs.declared.outcome.Outcome.{Outcome}
use Rattle.ictl.specs.Main.{ends}
use Rattle.ictl.specs.Steps.{defined_gives}
use Rattle.ictl.specs.Interps.{interp_state}
use Rattle.ictl.specs.Falls.{IsEnd}
use Rattle.ictl.specs.declared.defining.DefineStop.{DefineStop}
use Rattle.ictl.proofs.Ends.{outcome_end}
use Rattle.ictl.proofs.Overs.{over_gives, over_stands, over_falls}
use Rattle.ictl.proofs.interp.Interp.defined.Goals as goal

pub returns-in-Stands-clause-gives : goal.returns-in-Stands-clause-gives
returns-in-Stands-clause-gives c = λ names inside further.
    sym (ap (λ (s : DefineStop). defined_gives names s c.args.defining inside c.args.self.now further) c.in-Stands.is)

pub returns-in-Stands-clause-next : goal.returns-in-Stands-clause-next
returns-in-Stands-clause-next c = (rw c.in-Stands.is at c.requires.asks, c.requires.inner)

pub returns-in-Stands-clause-falls : goal.returns-in-Stands-clause-falls
returns-in-Stands-clause-falls c = λ before fell. rw c.in-Stands.is at fell

pub returns-in-Said-clause-gives : goal.returns-in-Said-clause-gives
returns-in-Said-clause-gives c = λ names inside further.
    over_gives names c.over.result _ c.args.self.now c.over.new.self inside further c.over.ensures.ends c.over.ensures.task
    ∙ ap (λ (o : Outcome). ends o (interp_state c.args.self.now) inside further) c.outcome_of-outcome.ensures
    ∙ sym (ap (λ (s : DefineStop). defined_gives names s c.args.defining inside c.args.self.now further) c.in-Said.is)

pub returns-in-Said-clause-next : goal.returns-in-Said-clause-next
returns-in-Said-clause-next c =
    over_stands c.over.result _ c.args.self.now c.over.new.self c.over.ensures.ends c.over.ensures.task c.requires.inner (subst (λ (o : Outcome). IsEnd o) (sym c.outcome_of-outcome.ensures) (outcome_end c.in-Said.answer))

pub returns-in-Said-clause-falls : goal.returns-in-Said-clause-falls
returns-in-Said-clause-falls c = λ before fell. over_falls c.over.result _ c.over.new.self before c.over.ensures.ends

pub returns-in-Gone-clause-gives : goal.returns-in-Gone-clause-gives
returns-in-Gone-clause-gives c = λ names inside further.
    over_gives names c.over-in-Gone.result _ c.args.self.now c.over-in-Gone.new.self inside further c.over-in-Gone.ensures.ends c.over-in-Gone.ensures.task
    ∙ sym (ap (λ (s : DefineStop). defined_gives names s c.args.defining inside c.args.self.now further) c.in-Gone.is)

pub returns-in-Gone-clause-next : goal.returns-in-Gone-clause-next
returns-in-Gone-clause-next c = over_stands c.over-in-Gone.result _ c.args.self.now c.over-in-Gone.new.self c.over-in-Gone.ensures.ends c.over-in-Gone.ensures.task c.requires.inner tt

pub returns-in-Gone-clause-falls : goal.returns-in-Gone-clause-falls
returns-in-Gone-clause-falls c = λ before fell. over_falls c.over-in-Gone.result _ c.over-in-Gone.new.self before c.over-in-Gone.ensures.ends

pub returns-in-Sunk-clause-gives : goal.returns-in-Sunk-clause-gives
returns-in-Sunk-clause-gives c = λ names inside further.
    over_gives names c.over-in-Sunk.result _ c.args.self.now c.over-in-Sunk.new.self inside further c.over-in-Sunk.ensures.ends c.over-in-Sunk.ensures.task
    ∙ sym (ap (λ (s : DefineStop). defined_gives names s c.args.defining inside c.args.self.now further) c.in-Sunk.is)

pub returns-in-Sunk-clause-next : goal.returns-in-Sunk-clause-next
returns-in-Sunk-clause-next c = over_stands c.over-in-Sunk.result _ c.args.self.now c.over-in-Sunk.new.self c.over-in-Sunk.ensures.ends c.over-in-Sunk.ensures.task c.requires.inner tt

pub returns-in-Sunk-clause-falls : goal.returns-in-Sunk-clause-falls
returns-in-Sunk-clause-falls c = λ before fell. over_falls c.over-in-Sunk.result _ c.over-in-Sunk.new.self before c.over-in-Sunk.ensures.ends
