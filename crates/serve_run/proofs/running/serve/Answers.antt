use Rattle.serve_run.specs.Serving.{Around}
use Rattle.serve_run.proofs.Begins.{later}
use Rattle.serve_run.proofs.running.serve.Goals as goal

pub returns : goal.returns
returns g c =
    let around : Around = record { net = g.N.Net.state c.args.net.now; pages = g.P.Pages.held c.args.pages.now; page_faults = g.P.Pages.faults c.args.pages.now; clock = g.C.Clock.held c.args.clock.now } in
    c.begin.ensures c.args.words.now around c.in-Ok.ensures.read
    (later (g.N.Net.state c.args.net.now) (g.N.Net.state c.listen.new.self) (g.P.Pages.held c.args.pages.now) (g.P.Pages.held c.root.new.self)
    (g.P.Pages.faults c.args.pages.now) (g.P.Pages.faults c.root.new.self) (g.C.Clock.held c.args.clock.now)
    c.listen.ensures.keeps c.root.ensures.held c.root.ensures.faults)
