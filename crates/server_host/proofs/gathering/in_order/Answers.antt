use Rattle.std.proofs.Common.{◌≡◌, ◌∙◌, false}
use Rattle.std.specs.Cmp.{IsStrictWeakOrder}
use Rattle.std.specs.List.Sorted.{IsSortedBy, IsStableBy}
use Rattle.natives.specs.SortingLaws.{only_order, sorts_by_order}
use Rattle.server_host.specs.Sharing.{by_bytes}
use Rattle.server_host.proofs.gathering.in_order.Goals as goal

pub returns : goal.returns
returns c =
    let order : IsStrictWeakOrder by_bytes = sorts_by_order false false in
    let rises : IsSortedBy by_bytes c.sort.new.self.items = c.in_ok-sort.ensures.sorted in
    let ties : IsStableBy by_bytes c.into_vec-sorted.result.items c.sort.new.self.items = c.in_ok-sort.ensures.stable in
    let same : c.into_vec-sorted.result.items ≡ c.args.names.now = c.into_vec-sorted.ensures ∙ c.in_ok-copies.ensures ∙ c.as_slice.ensures in
    c.from_vec.ensures ∙ only_order by_bytes order c.args.names.now c.sort.new.self.items rises (rw same at ties)
