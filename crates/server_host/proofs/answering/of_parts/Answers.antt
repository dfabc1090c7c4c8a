use Rattle.server_host.proofs.Lifting.{own, theirs}
use Rattle.server_host.proofs.answering.of_parts.Goals as goal

pub returns-in-NotMine : goal.returns-in-NotMine
returns-in-NotMine c = theirs c.args.words.now c.of_pages.result c.of_conn.new.host c.of_pages.new.host _ c.in-NotMine.ensures c.of_pages.ensures

pub returns-in_default : goal.returns-in_default
returns-in_default c = own c.args.words.now c.of_conn.result c.of_conn.new.host _ c.in_default.not-NotMine c.of_conn.ensures
