use Rattle.natives.specs.SortingLaws.{order_is_sorted, order_permutes, order_is_stable, only_order}
use Rattle.natives.proofs.law.sorting_is_stable.Goals as goal

pub returns : goal.returns
returns c = record {
  sorted = λ before list order. order_is_sorted before order list;
  same = λ before list order. order_permutes before order list;
  stable = λ before list order. order_is_stable before order list;
  only = λ before list other order. only_order before order list other;
}
