use Rattle.std.proofs.Common.{length}
use Rattle.tcl_parse.proofs.reading.read_substitution.Goals as goal

pub returns-in_ok-piece-in-Substituted-clause-goes : goal.returns-in_ok-piece-in-Substituted-clause-goes
returns-in_ok-piece-in-Substituted-clause-goes c = c.in_ok-piece-in-Substituted.ensures.goes (length c.args.bytes.now) c.in-Substituted.ensures.shorter
