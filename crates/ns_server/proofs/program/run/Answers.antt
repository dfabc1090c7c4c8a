use Rattle.std.proofs.Common.{◌≡◌, true, false, refl}
use Rattle.ns_server.specs.Running.{serves, ends}
use Rattle.ns_server.proofs.WordsLemmas.{others_stay}
use Rattle.ns_server.proofs.program.run.Goals as goal

pub returns-then-asks_server-clause-runs : goal.returns-then-asks_server-clause-runs
returns-then-asks_server-clause-runs g c = serves (c.asks_server.ensures.0 c.if-asks_server.true) c.run_serve.ensures refl

pub returns-clause-runs : goal.returns-clause-runs
returns-clause-runs g c =
    ends (λ asks. let yes : c.asks_server.result ≡ true = c.asks_server.ensures.1 asks in let no_server : c.asks_server.result ≡ false = c.if-asks_server.false in absurd (cc))
    c.run_rehearse.ensures refl

pub returns-clause-others : goal.returns-clause-others
returns-clause-others g c = others_stay c.args.steps.now _
