use Rattle.std.proofs.Common.{sym, ap, ◌∙◌}
use Rattle.std.specs.Option.{option_copied}
use Rattle.nsv_bucket.specs.Arrays.{seen}
use Rattle.nsv_bucket.proofs.Standing.{no_value}
use Rattle.nsv_bucket.proofs.arrays.value.Goals as goal

pub returns-in-None : goal.returns-in-None
returns-in-None c = sym (no_value (seen c.args.arrays.now) c.args.name.now c.args.key.now (sym c.array_named.ensures ∙ ap option_copied c.in-None.is))
