use Rattle.std.proofs.Common.{sym, ◌∙◌}
use Rattle.ictl.proofs.renewing.unmarked.Goals as goal

pub returns : goal.returns
returns c = (c.in-Some.is, sym c.marked.ensures ∙ c.if-marked.false)
