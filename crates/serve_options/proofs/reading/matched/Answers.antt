use Rattle.std.proofs.Common.{List, subst}
use Rattle.clap.specs.Words.{Row}
use Rattle.serve_options.specs.Reading.{AreIn}
use Rattle.serve_options.proofs.reading.matched.Goals as goal

pub returns-clause-read : goal.returns-clause-read
returns-clause-read c =
    subst (λ (rows : List Row). AreIn rows c.in_ok-options.options) c.in_ok-matches.ensures.matches c.in_ok-options.ensures
