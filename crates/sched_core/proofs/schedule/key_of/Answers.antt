use Rattle.std.proofs.Common.{◌∙◌}
use Rattle.std.specs.Map.Iter.{deref}
use Rattle.std.proofs.lemmas.Map.Iter.{rest_more, rest_all}
use Rattle.sched_core.proofs.Finding.{finds_start, finds_more, finds_one, finds_none}
use Rattle.sched_core.proofs.schedule.key_of.Goals as goal

pub loop-key-init : goal.loop-key-init
loop-key-init c = finds_start c.args.id c.args.plans.now.entries c.into_iter-key-iterator.result (c.into_iter-key-iterator.ensures.into_iter_gives ∙ c.keys-key-items.ensures.rest)

pub loop-key-preserved : goal.loop-key-preserved
loop-key-preserved c = finds_more c.args.id c.args.plans.now.entries c.loop-key.key-iterator c.in-Some.key.now c.next.new.self c.loop-key.invariant (rest_more deref _ _ _ _ c.in-Some.is c.next.ensures.steps) c.if-key-id.false

pub returns-then-key-id-clause-some : goal.returns-then-key-id-clause-some
returns-then-key-id-clause-some c = finds_one c.args.id c.args.plans.now.entries c.loop-key.key-iterator c.in-Some.key.now c.next.new.self c.loop-key.invariant (rest_more deref _ _ _ _ c.in-Some.is c.next.ensures.steps) c.if-key-id.true

pub returns-clause-none : goal.returns-clause-none
returns-clause-none c = finds_none c.args.id c.args.plans.now.entries c.loop-key.key-iterator c.loop-key.invariant (rest_all deref _ _ _ c.in-None.is c.next.ensures.steps)
