use Rattle.std.proofs.Common.{sym, ap, ◌∙◌}
use Rattle.std.specs.FinMap as map
use Rattle.nsv_bucket.proofs.Maps.{got}
use Rattle.nsv_bucket.proofs.array.NsvArray.get.Goals as goal

pub returns : goal.returns
returns c = c.get.ensures.value ∙ sym (got c.self.inside.values.entries c.args.key.now) ∙ ap (λ m. map.get m c.args.key.now) c.self.view_is
