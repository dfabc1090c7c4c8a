use Rattle.std.proofs.Common.{◌≡◌, ◌∙◌, rules}
use Rattle.std.proofs.lemmas.Fn.{always_returns_same}
use Rattle.std.specs.Cmp.{IsStrictWeakOrder}
use Rattle.std.specs.List.Sorted.{IsSortedBy, IsStableBy}
use Rattle.natives.specs.Sorting.{sorts_before}
use Rattle.natives.specs.SortingLaws.{only_order, sorts_by_order}
use Rattle.tcl_listcmd.proofs.sorting.in_order.Goals as goal

pub returns : goal.returns
returns c =
    let order : IsStrictWeakOrder (sorts_before c.args.numbers c.args.falls) = sorts_by_order c.args.numbers c.args.falls in
    let rises : IsSortedBy (sorts_before c.args.numbers c.args.falls) c.sort_by.new.self.items =
    c.in_ok-sort_by.ensures.sorted (sorts_before c.args.numbers c.args.falls) order (always_returns_same _ _ _ (λ a r f k. search rules)) in
    let ties : IsStableBy (sorts_before c.args.numbers c.args.falls) c.into_vec-elements.result.items c.sort_by.new.self.items =
    c.in_ok-sort_by.ensures.stable (sorts_before c.args.numbers c.args.falls) order (always_returns_same _ _ _ (λ a r f k. search rules)) in
    let same : c.into_vec-elements.result.items ≡ c.args.list.now = c.into_vec-elements.ensures ∙ c.in_ok-copies.ensures ∙ c.as_slice.ensures in
    c.from_vec.ensures ∙ only_order (sorts_before c.args.numbers c.args.falls) order c.args.list.now c.sort_by.new.self.items rises (rw same at ties)
