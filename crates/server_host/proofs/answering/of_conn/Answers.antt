use Rattle.server_host.proofs.Lifting.{conn_called}
use Rattle.server_host.proofs.answering.of_conn.Goals as goal

pub returns : goal.returns
returns c = conn_called _ _ c.host.view_is c.args.words.now c.call.result c.call.new.self c.call.ensures
