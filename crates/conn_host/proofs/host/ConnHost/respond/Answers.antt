use Rattle.std.proofs.Common.{subst}
use Rattle.tcl_host.specs.Outcomes.{EndsWith}
use Rattle.conn_host.specs.Conns.{ConnState}
use Rattle.conn_host.specs.Responding.{respond}
use Rattle.conn_host.specs.Waiting.{seen}
use Rattle.conn_host.proofs.Waits.{respond_seen}
use Rattle.conn_host.proofs.host.ConnHost.respond.Goals as goal

pub returns : goal.returns
returns c =
    subst (λ (host : ConnState). EndsWith c.respond.result (seen c.self.inside.waits c.respond.new.host) (respond c.args.response host)) c.self.view_is
    (respond_seen c.self.inside.waits c.respond.result c.args.response c.self.inside.conn c.respond.new.host c.respond.ensures)
