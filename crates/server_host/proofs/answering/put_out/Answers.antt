use Rattle.server_host.proofs.Lifting.{text_taken}
use Rattle.server_host.proofs.answering.put_out.Goals as goal

pub returns : goal.returns
returns c = text_taken _ _ c.host.view_is c.args.piece.now c.text.result c.text.new.self c.text.ensures
