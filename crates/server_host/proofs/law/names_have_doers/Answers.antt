use Rattle.server_host.proofs.Naming.{named, all_done}
use Rattle.server_host.proofs.law.names_have_doers.Goals as goal

pub returns-clause-names : goal.returns-clause-names
returns-clause-names c = named

pub returns-clause-built : goal.returns-clause-built
returns-clause-built c = all_done
