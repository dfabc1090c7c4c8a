use Rattle.std.proofs.Common.{◌∙◌}
use Rattle.conn_host.specs.Conns.{ConnState}
use Rattle.conn_host.specs.Leaf.{does}
use Rattle.conn_host.proofs.Waits.{replies_made}
use Rattle.conn_host.proofs.host.ConnHost.do_made.Goals as goal

pub returns-in-Ok : goal.returns-in-Ok
returns-in-Ok c =
    replies_made c.do_verb.result (λ (host : ConnState). does c.args.verb c.args.words.now host) c.args.self.now c.make.new.conn c.do_verb.new.conn
    (c.in-Ok.ensures ∙ c.self.view_is) c.do_verb.ensures
