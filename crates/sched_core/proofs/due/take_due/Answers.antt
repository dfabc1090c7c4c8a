use Rattle.std.proofs.Common.{inl, inr, ⊎_elim}
use Rattle.std.specs.List.{Contains}
use Rattle.sched_core.specs.Due.{IsMoved}
use Rattle.sched_core.proofs.Moving.{moved_apart, after_due}
use Rattle.sched_core.proofs.due.take_due.Goals as goal

pub take_in-requires-clause-apart : goal.take_in-requires-clause-apart
take_in-requires-clause-apart c = λ e f i j. moved_apart c.args.now c.args.plans.now.entries c.requires.ids e f i ((c.in_ok-later.ensures f).0 j)

pub returns-clause-after : goal.returns-clause-after
returns-clause-after c =
    let old = c.args.plans.now.entries in
    let later = c.in_ok-later.later.entries in
    let ok = c.in_ok-take_in.ensures.ok in
    let moved = c.in_ok-later.ensures in
    after_due c.args.now old c.take_in.new.plans.entries c.drop_due.new.plans.entries
    (λ e. (
      λ i. ⊎_elim (λ (a : Contains old e). inl a) (λ (b : Contains later e). inr ((moved e).0 b)) ((ok e).0 i),
      λ h. (ok e).1 (⊎_elim (λ (a : Contains old e). inl a) (λ (b : IsMoved c.args.now old e). inr ((moved e).1 b)) h),
    )) c.drop_due.ensures.later
