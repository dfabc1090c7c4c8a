use Rattle.std.proofs.Common.{◌∙◌, List, Option, ap}
use Rattle.natives.specs.Places.{item_at}
use Rattle.natives.proofs.Standing.{one_place}
use Rattle.natives.proofs.places.make_places.Goals as goal

pub each-preserved : goal.each-preserved
each-preserved g c = λ at. ap (λ (xs : List (Option g.row.T.Denot)). item_at xs at) c.in_ok-push.ensures.items ∙ (one_place c.each.places.items at ∙ c.each.invariant at)

pub returns-in_err-push-clause-same : goal.returns-in_err-push-clause-same
returns-in_err-push-clause-same g c = λ at. ap (λ (xs : List (Option g.row.T.Denot)). item_at xs at) c.in_err-push.ensures.items ∙ c.each.invariant at
