use Rattle.std.proofs.Common.{sym, ap, ◌∙◌}
use Rattle.std.specs.Option.{option_copied}
use Rattle.nsv_bucket.specs.Arrays.{seen}
use Rattle.nsv_bucket.proofs.Standing.{no_size}
use Rattle.nsv_bucket.proofs.reads.size_of.Goals as goal

pub returns-in-None : goal.returns-in-None
returns-in-None c = sym (no_size (seen c.args.arrays.now) c.args.name.now (sym c.array_named.ensures ∙ ap option_copied c.in-None.is))
