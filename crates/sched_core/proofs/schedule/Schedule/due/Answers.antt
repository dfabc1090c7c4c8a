use Rattle.std.proofs.Common.{ℕ, List, refl, sym, subst, arith}
use Rattle.sched_core.specs.Entries.{Entry, State}
use Rattle.sched_core.specs.Allowed.{Allowed}
use Rattle.sched_core.specs.Steps.{Runs}
use Rattle.sched_core.proofs.Allowing.{allowed_due}
use Rattle.sched_core.proofs.schedule.Schedule.due.Goals as goal
use Rattle.sched_core.proofs.schedule.Schedule.due.Goals.{in-Ok, in-Err}

pub invariant_of-self : goal.invariant_of-self
invariant_of-self c =
    elim c.match-take_due.branch [
      | in-Ok w ↦ allowed_due c.moment_of.result c.self.inside.next c.self.inside.stopped c.self.inside.stopped c.self.inside.plans.entries c.take_due.new.plans.entries (omega (arith, c.moment_of.ensures)) c.self.invariant c.take_due.ensures.ordered w.in-Ok.ensures.after
      | in-Err w ↦ subst (λ (z : List Entry). Allowed (record { next = c.self.inside.next; entries = z; stopped = c.self.inside.stopped })) (sym w.in-Err.ensures.err) c.self.invariant
    ]

pub returns-clause-step : goal.returns-clause-step
returns-clause-step c =
    let before : State = record { next = c.self.inside.next; entries = c.self.inside.plans.entries; stopped = c.self.inside.stopped } in
    let after : State = record { next = c.self.inside.next; entries = c.take_due.new.plans.entries; stopped = c.self.inside.stopped } in
    let runs : Runs before c.moment_of.result c.match-take_due.result after =
    elim c.match-take_due.branch [
      | in-Ok w ↦ rw w.result-is (c.if-self.false, w.in-Ok.ensures.list, refl, refl, w.in-Ok.ensures.after)
      | in-Err w ↦ rw w.result-is (c.if-self.false, λ i. record { next = c.self.inside.next; entries = w.in-Err.ensures.err i; stopped = c.self.inside.stopped })
    ] in
    subst (λ (n : ℕ). Runs c.args.self.now n c.match-take_due.result after) c.moment_of.ensures
    (subst (λ (s : State). Runs s c.moment_of.result c.match-take_due.result after) c.self.view_is runs)

pub returns-clause-allowed : goal.returns-clause-allowed
returns-clause-allowed c = invariant_of-self c
