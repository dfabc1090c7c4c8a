use Rattle.std.proofs.Common.{sym, refl, subst, arith}
use Rattle.std.specs.List.{Contains}
use Rattle.sched_core.specs.declared.call.SchedReply.TheVariants.{Cancelled}
use Rattle.sched_core.specs.Entries.{State}
use Rattle.sched_core.specs.Steps.{Cancels}
use Rattle.sched_core.proofs.Allowing.{allowed_cancel, out_by_id}
use Rattle.sched_core.proofs.Maps.{taken}
use Rattle.sched_core.proofs.schedule.Schedule.cancel.Goals as goal

pub invariant_of-self : goal.invariant_of-self
invariant_of-self c =
    allowed_cancel c.self.inside.next c.self.inside.stopped c.self.inside.plans.entries c.remove.new.self.entries c.self.invariant c.remove.ensures.ordered (omega (arith, c.remove.ensures.len))
    (λ e i. ((taken c.self.inside.plans c.remove.new.self c.in-Some.key c.self.invariant.in_order c.remove.ensures.ordered c.remove.ensures.updates e).0 i).0)

pub returns-in-Some-clause-step : goal.returns-in-Some-clause-step
returns-in-Some-clause-step c =
    let x = c.in-Some.ensures.some in
    subst (λ (s : State). Cancels s c.args.id Cancelled (record { next = c.self.inside.next; entries = c.remove.new.self.entries; stopped = c.self.inside.stopped })) c.self.view_is (
      (x.0, x.1, x.3),
      refl,
      refl,
      λ f.
          let t = taken c.self.inside.plans c.remove.new.self c.in-Some.key c.self.invariant.in_order c.remove.ensures.ordered c.remove.ensures.updates f in
          let o = out_by_id c.self.inside.plans.entries c.in-Some.key c.args.id x.0 c.self.invariant.own_ids x.1 x.2 x.3 f in
          (λ i. o.0 (t.0 i), λ h. t.1 (o.1 h)),
    )

pub returns-in-None-clause-step : goal.returns-in-None-clause-step
returns-in-None-clause-step c = (λ e i. c.in-None.ensures.none e (subst (λ (s : State). Contains s.entries e) (sym c.self.view_is) i), refl)

pub returns-in-Some-clause-allowed : goal.returns-in-Some-clause-allowed
returns-in-Some-clause-allowed c = invariant_of-self c
