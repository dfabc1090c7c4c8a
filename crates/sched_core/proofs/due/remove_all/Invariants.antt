use Rattle.std.proofs.Common.{◌≡◌, ℕ, cond, take, None}
use Rattle.std.specs.List.{list_any}
use Rattle.std.specs.Ordering.{eq_by_cmp}
use Rattle.std.specs.BTreeMap.{get}
use Rattle.sched_core.specs.Entries.{key_cmp, AreInOrder}
use Rattle.sched_core.proofs.due.remove_all.Given as goal

abbrev pub invariant-loop-key : goal.invariant-loop-key
invariant-loop-key l = record {
  found : (q : ℕ × ℕ) → get key_cmp l.plans q ≡ cond (list_any (λ k. eq_by_cmp key_cmp k q) (take l.key-index l.keys)) None (get key_cmp l.initial.plans q);
  ordered : AreInOrder l.plans.entries;
}
