use Rattle.std.proofs.Common.{refl, sym, ap, ◌∙◌}
use Rattle.std.specs.Map.Iter.{deref_pair}
use Rattle.std.specs.Option.{option_copied}
use Rattle.std.proofs.lemmas.Map.Iter.{rest_all}
use Rattle.nsv_bucket.specs.Listings.{pairs_in}
use Rattle.nsv_bucket.proofs.Maps.{listed}
use Rattle.nsv_bucket.proofs.Found.{all_found}
use Rattle.nsv_bucket.proofs.listing.pairs.Goals as goal

pub returns : goal.returns
returns c =
    all_found c.loop-key.found (pairs_in (option_copied c.args.pattern)) c.loop-key.key-iterator c.args.map.now.entries c.loop-key.invariant (rest_all deref_pair _ _ _ c.in-None.is c.next.ensures.steps) refl
    ∙ ap (pairs_in (option_copied c.args.pattern)) (sym (listed c.args.map.now.entries c.into_iter-key-iterator.ensures.into_iter_gives.5))
