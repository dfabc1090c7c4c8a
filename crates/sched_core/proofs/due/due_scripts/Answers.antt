use Rattle.std.proofs.Common.{◌≡◌, ◌++◌, map, ◌∙◌}
use Rattle.std.specs.List.{filter}
use Rattle.sched_core.specs.Due.{is_due, listed}
use Rattle.sched_core.proofs.Keys.{due_range}
use Rattle.sched_core.proofs.due.due_scripts.Goals as goal

pub loop-key-init : goal.loop-key-init
loop-key-init c =
    let due : c.into_iter-key-iterator.result ≡ filter (is_due c.args.now) c.args.plans.now.entries =
    c.into_iter-key-iterator.ensures.into_iter_gives ∙ (c.range-key-items.ensures.between tt ∙ due_range c.args.now c.args.plans.now.entries) in
    λ i. c.new-list.ensures i ++ map listed (due i)
