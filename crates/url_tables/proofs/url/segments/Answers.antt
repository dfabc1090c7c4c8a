use Rattle.std.proofs.Common.{rules, tests, ◌≡◌, ℕ, ap, ◌∙◌, map, List}
use Rattle.std.proofs.lemmas.Iterator.Consumers.{YieldsList-end}
use Rattle.std.proofs.lemmas.Iterator.Splits.{YieldsList-from_slice_split}
use Rattle.std.specs.Prelude.{filter}
use Rattle.std.specs.List.{slice_split}
use Rattle.std.specs.Slice.Iter.{split_rest, split_done, split_callee}
use Rattle.txt_core.specs.Texts.{is_filled}
use Rattle.url_tables.specs.Urls.{is_slash, segments}
use Rattle.url_tables.proofs.url.segments.Goals as goal

pub returns : goal.returns
unfolding segments
returns c =
    let end : map (λ piece. piece.now) c.loop-piece.yielded ≡ slice_split is_slash c.args.url.now =
    (YieldsList-end (YieldsList-from_slice_split _ is_slash c.args.url.now (ap split_rest c.into_iter-piece-iterator.ensures.into_iter_gives ∙ c.split-piece-items.ensures.rest) (ap split_done c.into_iter-piece-iterator.ensures.into_iter_gives ∙ c.split-piece-items.ensures.done) (ap split_callee c.into_iter-piece-iterator.ensures.into_iter_gives ∙ c.split-piece-items.ensures.closure) (λ x r q k. search (rules, tests)))
    c.loop-piece.yielded _ c.loop-piece.yielded_by _ _ c.in-None.is c.next.ensures.steps).0 in
    c.loop-piece.invariant ∙ ap (λ (pieces : List (List ℕ)). filter is_filled pieces) end
