use Rattle.std.proofs.Common.{ℕ, refl, subst}
use Rattle.std.specs.Prelude.{IfOk}
use Rattle.natives.specs.Names.{names_of}
use Rattle.server_threads.specs.Stops.{Stops}
use Rattle.serve_run.specs.Serving.{Around}
use Rattle.serve_run.proofs.Begins.{unstarted, served}
use Rattle.serve_run.proofs.running.begin.Goals as goal

pub returns-in-Err : goal.returns-in-Err
returns-in-Err g c = λ words before read earlier.
    let now : Around = record { net = g.N.Net.state c.args.net.now; pages = g.P.Pages.held c.args.pages.now; page_faults = g.P.Pages.faults c.args.pages.now; clock = g.C.Clock.held c.args.clock.now } in
    let after : Around = record now { pages = g.P.Pages.held c.start.new.pages; page_faults = g.P.Pages.faults c.start.new.pages; clock = g.C.Clock.held c.start.new.clock } in
    unstarted (names_of c.args.natives.now) words before now earlier c.requires.new c.args.options.now.start c.in-Err.why c.unstarted.result after
    read.0 read.1.start c.unstarted.ensures c.in-Err.ensures.fault refl c.start.ensures.held

pub returns : goal.returns
returns g c = λ words before read earlier.
    let now : Around = record { net = g.N.Net.state c.args.net.now; pages = g.P.Pages.held c.args.pages.now; page_faults = g.P.Pages.faults c.args.pages.now; clock = g.C.Clock.held c.args.clock.now } in
    let after : Around = record {
      net = g.N.Net.state c.serve_net-served.new.net;
      pages = g.P.Pages.held c.start.new.pages;
      page_faults = g.P.Pages.faults c.start.new.pages;
      clock = g.C.Clock.held c.start.new.clock;
    } in
    let end = c.serve_net-served.result in
    served (names_of c.args.natives.now) words before now earlier c.requires.new c.args.options.now.start after
    read.0 read.1.start c.in_default-start.ensures.well c.start.ensures.held end c.ended.result c.ended.ensures
    (subst (λ (n : ℕ). IfOk end (λ why. Stops n now.net why after.net)) read.1.connections c.serve_net-served.ensures.stops)
    c.serve_net-served.ensures.none
