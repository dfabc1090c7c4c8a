use Rattle.server_host.proofs.Lifting.{pages_told}
use Rattle.server_host.proofs.answering.page_answered.Goals as goal

pub returns : goal.returns
returns c = pages_told _ _ c.host.view_is c.args.words.now c.args.answer.now c.answered.result c.answered.new.self c.answered.ensures
