use Rattle.nsv_bucket.proofs.Maps.{one_gone}
use Rattle.nsv_bucket.proofs.arrays.remove_array.Goals as goal

pub returns : goal.returns
returns c = one_gone c.args.arrays.now.entries c.remove.new.self.entries c.args.name.now c.remove.ensures.updates.0
