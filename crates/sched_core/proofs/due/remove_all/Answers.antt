use Rattle.std.proofs.Common.{arith}
use Rattle.std.specs.Ordering.{eq_by_cmp}
use Rattle.std.proofs.lemmas.List.Folds.{list_any_more}
use Rattle.sched_core.specs.Entries.{key_cmp}
use Rattle.sched_core.proofs.Maps.{removed_more}
use Rattle.sched_core.proofs.due.remove_all.Goals as goal

pub loop-key-preserved : goal.loop-key-preserved
loop-key-preserved c = record {
  found = λ q.
      let more = list_any_more (λ k. eq_by_cmp key_cmp k q) c.args.keys.now c.loop-key.key-index (0, 0) (omega arith) in
      removed_more _ _ _ _ _ _ (c.loop-key.invariant.found q) (c.remove.ensures.updates.0 q) more;
  ordered = c.remove.ensures.ordered;
}
