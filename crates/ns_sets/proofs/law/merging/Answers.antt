use Rattle.ns_sets.proofs.Merges.{merge_is}
use Rattle.ns_sets.proofs.law.merging.Goals as goal

pub returns : goal.returns
returns c = merge_is
