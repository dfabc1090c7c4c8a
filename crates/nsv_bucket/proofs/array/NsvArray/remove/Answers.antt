use Rattle.std.proofs.Common.{ap, ◌∙◌}
use Rattle.std.specs.FinMap as map
use Rattle.nsv_bucket.proofs.Maps.{one_gone}
use Rattle.nsv_bucket.proofs.array.NsvArray.remove.Goals as goal

pub returns : goal.returns
returns c =
    one_gone c.self.inside.values.entries c.remove.new.self.entries c.args.key.now c.remove.ensures.updates.0
    ∙ ap (λ m. map.remove m c.args.key.now) c.self.view_is
