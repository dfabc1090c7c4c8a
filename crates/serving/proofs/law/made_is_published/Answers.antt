use Rattle.std.proofs.Common.{ap}
use Rattle.serving.specs.Calls.{publish_asked}
use Rattle.serving.proofs.law.made_is_published.Goals as goal

pub returns : goal.returns
returns c defs made = ap publish_asked (c.scripts_are_read.ensures defs made)
