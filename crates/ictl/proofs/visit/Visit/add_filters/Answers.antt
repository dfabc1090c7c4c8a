use Rattle.ictl.proofs.Visiting.{no_filters}
use Rattle.ictl.proofs.visit.Visit.add_filters.Goals as goal

pub returns-then-not-has_filters : goal.returns-then-not-has_filters
returns-then-not-has_filters c = λ defs b.
    no_filters c.args.self.now c.args.request.now defs c.requires (c.has_filters.ensures defs b c.if-not-has_filters.true)
