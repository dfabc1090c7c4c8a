use Rattle.std.proofs.Common.{◌≡◌, List, false, sym, ◌∙◌, subst}
use Rattle.std.specs.List.{filter}
use Rattle.std.specs.Map.Iter.{deref_pair}
use Rattle.std.proofs.lemmas.Map.Iter.{rest_more, rest_all}
use Rattle.sched_core.specs.declared.plan.Plan.{Plan}
use Rattle.sched_core.specs.Entries.{Entry}
use Rattle.sched_core.specs.Due.{is_due}
use Rattle.sched_core.proofs.Keys.{due_range}
use Rattle.sched_core.proofs.Members.{here}
use Rattle.sched_core.proofs.Moving.{Moving, moving_starts, moving_once, moving_again, moving_ends}
use Rattle.sched_core.proofs.due.moved.Goals as goal

pub loop-key-init : goal.loop-key-init
loop-key-init c =
    let due : c.into_iter-key-iterator.result ≡ filter (is_due c.args.now) c.args.plans.now.entries =
    c.into_iter-key-iterator.ensures.into_iter_gives ∙ (c.range-key-items.ensures.between tt ∙ due_range c.args.now c.args.plans.now.entries) in
    moving_starts c.args.now c.args.plans.now.entries c.into_iter-key-iterator.result c.new-later.result.entries due c.new-later.ensures.empty c.requires.ordered c.requires.ids

pub next_moment-moment-requires-clause-seconds : goal.next_moment-moment-requires-clause-seconds
next_moment-moment-requires-clause-seconds c =
    let x : Entry = (c.in-Some.key.now, c.in-Some.plan.now) in
    let at = subst (λ (z : List Entry). Moving c.args.now c.args.plans.now.entries z c.loop-key.later.entries) (rest_more deref_pair _ _ _ _ c.in-Some.is c.next.ensures.steps) c.loop-key.invariant in
    let sound = c.requires.sound x (at.within x (here x c.next.new.self)).0 in
    (sound.0, sound.1)

pub loop-key-preserved-in_ok-insert : goal.loop-key-preserved-in_ok-insert
loop-key-preserved-in_ok-insert c =
    let x : Entry = (c.in-Some.key.now, c.in-Some.plan.now) in
    let at = subst (λ (z : List Entry). Moving c.args.now c.args.plans.now.entries z c.loop-key.later.entries) (rest_more deref_pair _ _ _ _ c.in-Some.is c.next.ensures.steps) c.loop-key.invariant in
    let again : c.in-Some.plan.now.once ≡ false = c.if-not-plan.true in
    let script : c.in_ok-script.script ≡ c.in-Some.plan.now.script = c.in_ok-script.ensures in
    let plan : Plan = record { seconds = c.in-Some.plan.now.seconds; once = false; script = c.in_ok-script.script } in
    let same : plan ≡ c.in-Some.plan.now = λ i. record { seconds = c.in-Some.plan.now.seconds; once = sym again i; script = script i } in
    moving_again c.args.now c.args.plans.now.entries x c.next.new.self c.loop-key.later c.insert.new.self c.next_moment-moment.result plan at again same c.next_moment-moment.ensures.next c.insert.ensures.was_ordered c.insert.ensures.ordered c.in_ok-insert.ensures.updates

pub loop-key-preserved-in_ok-insert-2 : goal.loop-key-preserved-in_ok-insert-2
loop-key-preserved-in_ok-insert-2 c =
    let x : Entry = (c.in-Some.key.now, c.in-Some.plan.now) in
    let at = subst (λ (z : List Entry). Moving c.args.now c.args.plans.now.entries z c.loop-key.later.entries) (rest_more deref_pair _ _ _ _ c.in-Some.is c.next.ensures.steps) c.loop-key.invariant in
    let again : c.in-Some.plan.now.once ≡ false = c.if-not-plan.true in
    let script : c.in_ok-script.script ≡ c.in-Some.plan.now.script = c.in_ok-script.ensures in
    let plan : Plan = record { seconds = c.in-Some.plan.now.seconds; once = false; script = c.in_ok-script.script } in
    let same : plan ≡ c.in-Some.plan.now = λ i. record { seconds = c.in-Some.plan.now.seconds; once = sym again i; script = script i } in
    moving_again c.args.now c.args.plans.now.entries x c.next.new.self c.loop-key.later c.insert.new.self c.next_moment-moment.result plan at again same c.next_moment-moment.ensures.next c.insert.ensures.was_ordered c.insert.ensures.ordered c.in_ok-insert.ensures.updates

pub loop-key-preserved : goal.loop-key-preserved
loop-key-preserved c =
    let x : Entry = (c.in-Some.key.now, c.in-Some.plan.now) in
    let at = subst (λ (z : List Entry). Moving c.args.now c.args.plans.now.entries z c.loop-key.later.entries) (rest_more deref_pair _ _ _ _ c.in-Some.is c.next.ensures.steps) c.loop-key.invariant in
    moving_once c.args.now c.args.plans.now.entries x c.next.new.self c.loop-key.later.entries at c.if-not-plan.false

pub returns : goal.returns
returns c = moving_ends c.args.now c.args.plans.now.entries c.loop-key.key-iterator c.loop-key.later.entries c.loop-key.invariant (rest_all deref_pair _ _ _ c.in-None.is c.next.ensures.steps)
