use Rattle.std.proofs.Common.{ℕ, List, ap, ◌∙◌, Option}
use Rattle.ictl.specs.Visits.{serving_by}
use Rattle.ictl.proofs.Visiting.{entered}
use Rattle.ictl.proofs.visit.Visit.enter.Goals as goal

pub returns : goal.returns
returns c = λ defs b.
    entered c.add_filters.new.self c.args.self.now c.args.request.now defs c.args.authorises c.in_ok-call.call c.in_ok-serving.serving
    (c.in_ok-add_filters.ensures defs b) c.in_ok-call.ensures
    (c.in_ok-serving.ensures ∙ ap (λ (w : Option (List (List ℕ))). serving_by w c.args.request.now) (c.serve-found.ensures defs b))
