use Rattle.std.proofs.Common.{sym, ap, is_some, ◌∙◌}
use Rattle.nsv_bucket.proofs.Maps.{got}
use Rattle.nsv_bucket.proofs.arrays.has_array.Goals as goal

pub returns : goal.returns
returns c = c.contains_key.ensures ∙ sym (ap is_some (got c.args.arrays.now.entries c.args.name.now))
