use Rattle.std.proofs.Common.{rules, tests, ◌≡◌, ℕ, ap, ◌∙◌, map, List}
use Rattle.std.proofs.lemmas.Iterator.Consumers.{YieldsList-end}
use Rattle.std.proofs.lemmas.Iterator.Splits.{YieldsList-from_slice_split}
use Rattle.std.specs.Prelude.{filter}
use Rattle.std.specs.List.{slice_split}
use Rattle.std.specs.Slice.Iter.{split_rest, split_done, split_callee}
use Rattle.txt_core.specs.Texts.{is_filled}
use Rattle.percent_encoding.specs.Percent.{percent_decode}
use Rattle.http_req.specs.Targets.{is_slash, segments_of}
use Rattle.http_req.proofs.target.segments.Goals as goal

pub returns : goal.returns
unfolding segments_of
returns c =
    let end : map (λ part. part.now) c.loop-part.yielded ≡ slice_split is_slash c.path.result.now =
    (YieldsList-end (YieldsList-from_slice_split _ is_slash c.path.result.now (ap split_rest c.into_iter-part-iterator.ensures.into_iter_gives ∙ c.split-part-items.ensures.rest) (ap split_done c.into_iter-part-iterator.ensures.into_iter_gives ∙ c.split-part-items.ensures.done) (ap split_callee c.into_iter-part-iterator.ensures.into_iter_gives ∙ c.split-part-items.ensures.closure) (λ x r q k. search (rules, tests)))
    c.loop-part.yielded _ c.loop-part.yielded_by _ _ c.in-None.is c.next.ensures.steps).0 in
    c.loop-part.invariant
    ∙ ap (λ (parts : List (List ℕ)). map percent_decode (filter is_filled parts)) (end ∙ ap (slice_split is_slash) c.path.ensures)
