use Rattle.std.proofs.Common.{sym, ◌∙◌}
use Rattle.nsv_bucket.proofs.Maps.{got}
use Rattle.nsv_bucket.proofs.arrays.array_named.Goals as goal

pub returns : goal.returns
returns c = c.get.ensures.value ∙ sym (got c.args.arrays.now.entries c.args.name.now)
