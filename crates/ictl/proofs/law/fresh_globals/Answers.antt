use Rattle.ictl.proofs.Globals.{keeps_are_globals, definitions_write}
use Rattle.ictl.proofs.law.fresh_globals.Goals as goal

pub returns-clause-globals : goal.returns-clause-globals
returns-clause-globals c = keeps_are_globals

pub returns-clause-writes : goal.returns-clause-writes
returns-clause-writes c = definitions_write
