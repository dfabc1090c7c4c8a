use Rattle.chan_core.proofs.Newlines.{line_parts}
use Rattle.chan_core.proofs.law.lines.Goals as goal

pub returns : goal.returns
returns c = line_parts
