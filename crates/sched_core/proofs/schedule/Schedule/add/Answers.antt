use Rattle.std.proofs.Common.{◌≡◌, ◌⊎◌, ◌↔◌, ◌+◌, ℕ, is_some, length, refl, ap, subst, ⊎_elim, arith}
use Rattle.std.specs.List.{Contains}
use Rattle.sched_core.specs.declared.call.SchedReply.TheVariants.{Id}
use Rattle.sched_core.specs.Entries.{Entry, State, most_entries}
use Rattle.sched_core.specs.Steps.{Adds, entry_of}
use Rattle.sched_core.proofs.Allowing.{allowed_add, at_most_one}
use Rattle.sched_core.proofs.Maps.{put}
use Rattle.sched_core.proofs.schedule.Schedule.add.Goals as goal

pub invariant_of-self : goal.invariant_of-self
invariant_of-self c =
    let x : Entry = ((c.moment_of.result + c.clamp_seconds-seconds.result, c.self.inside.next), record { seconds = c.clamp_seconds-seconds.result; once = c.args.once; script = c.args.script }) in
    let seconds = c.clamp_seconds-seconds.ensures in
    let moment = c.moment_of.ensures in
    let one = at_most_one (is_some c.in-Ok.field-0) in
    allowed_add c.self.inside.next c.self.inside.stopped c.self.inside.plans.entries c.insert.new.self.entries x c.self.invariant c.insert.ensures.ordered (omega (arith, c.in-Ok.ensures.len, c.len.ensures.len, one)) refl
    (omega (arith, seconds), omega (arith, seconds), omega (arith, seconds, moment))
    (put c.self.inside.plans c.insert.new.self x.0 x.1 c.self.invariant.in_order c.insert.ensures.ordered c.in-Ok.ensures.updates (λ e i at. let g = c.self.invariant.given e i in let same = ap (λ (k : ℕ × ℕ). k.1) at in omega (arith, g, same)))

pub returns-in-Ok-clause-step : goal.returns-in-Ok-clause-step
returns-in-Ok-clause-step c =
    let x : Entry = ((c.moment_of.result + c.clamp_seconds-seconds.result, c.self.inside.next), record { seconds = c.clamp_seconds-seconds.result; once = c.args.once; script = c.args.script }) in
    let is : x ≡ entry_of c.self.inside.next c.args.moment c.args.seconds c.args.once c.args.script =
    λ i. ((c.moment_of.ensures i + c.clamp_seconds-seconds.ensures i, c.self.inside.next), record { seconds = c.clamp_seconds-seconds.ensures i; once = c.args.once; script = c.args.script }) in
    let both = put c.self.inside.plans c.insert.new.self x.0 x.1 c.self.invariant.in_order c.insert.ensures.ordered c.in-Ok.ensures.updates (λ e i at. let g = c.self.invariant.given e i in let same = ap (λ (k : ℕ × ℕ). k.1) at in omega (arith, g, same)) in
    subst (λ (s : State). Adds s (λ id. entry_of id c.args.moment c.args.seconds c.args.once c.args.script) (Id c.self.inside.next) (record { next = c.self.inside.next + 1; entries = c.insert.new.self.entries; stopped = c.self.inside.stopped })) c.self.view_is (
      λ full. ⊎_elim (λ (ten : length c.self.inside.plans.entries ≡ most_entries). omega (arith, ten, c.len.ensures.len)) (λ (last : c.self.inside.next ≡ 18446744073709551615). c.if-id.false last) full,
      refl,
      refl,
      refl,
      λ y. subst (λ (z : Entry). Contains c.insert.new.self.entries y ↔ (Contains c.self.inside.plans.entries y ⊎ (y ≡ z))) is (both y),
    )

pub returns-in-Ok-clause-allowed : goal.returns-in-Ok-clause-allowed
returns-in-Ok-clause-allowed c = invariant_of-self c
