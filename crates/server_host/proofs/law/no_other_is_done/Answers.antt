use Rattle.server_host.proofs.Naming.{others}
use Rattle.server_host.proofs.law.no_other_is_done.Goals as goal

pub returns : goal.returns
returns c = others
