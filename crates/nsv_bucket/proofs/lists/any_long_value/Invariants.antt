use Rattle.std.proofs.Common.{◌≡◌, length}
use Rattle.nsv_bucket.specs.Lists.{has_long_value}
use Rattle.nsv_bucket.proofs.lists.any_long_value.Given as goal

abbrev pub invariant-pairs : goal.invariant-pairs
invariant-pairs l = has_long_value l.rest ≡ has_long_value l.fn.pairs

abbrev pub decreases-pairs : goal.decreases-pairs
decreases-pairs l = length l.rest
