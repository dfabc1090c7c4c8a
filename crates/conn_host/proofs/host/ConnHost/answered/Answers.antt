use Rattle.std.proofs.Common.{◌∙◌}
use Rattle.conn_host.specs.Conns.{ConnState}
use Rattle.conn_host.specs.Leaf.{conn_answer}
use Rattle.conn_host.proofs.Waits.{replies_made}
use Rattle.conn_host.proofs.host.ConnHost.answered.Goals as goal

pub returns-in-Ok : goal.returns-in-Ok
returns-in-Ok c =
    replies_made c.resume.result (λ (host : ConnState). conn_answer c.args.words.now c.args.answer_given.now host) c.args.self.now c.make.new.conn c.resume.new.conn
    (c.in-Ok.ensures ∙ c.self.view_is) c.resume.ensures
