use Rattle.std.proofs.Common.{ap, ◌∙◌}
use Rattle.std.specs.FinMap as map
use Rattle.nsv_bucket.specs.Arrays.{seen}
use Rattle.nsv_bucket.proofs.Maps.{one_put}
use Rattle.nsv_bucket.proofs.arrays.place.Goals as goal

pub returns-clause-ok : goal.returns-clause-ok
returns-clause-ok c =
    one_put c.args.arrays.now.entries c.insert.new.self.entries c.in_ok-name.name c.args.array c.in_ok-insert.ensures.updates.0
    ∙ ap (λ k. map.insert (seen c.args.arrays.now) k c.args.array) c.in_ok-name.ensures
