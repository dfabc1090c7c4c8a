use Rattle.std.proofs.Common.{sym, subst}
use Rattle.std.proofs.lemmas.Result.{err_from_is_err_and}
use Rattle.natives.specs.Names.{names_of}
use Rattle.serve_run.specs.Starting.{IsReading}
use Rattle.serve_run.specs.Stages.{Misses}
use Rattle.serve_run.proofs.Begins.{reading_is, start_is}
use Rattle.serve_run.proofs.start.start.Goals as goal

pub returns-in_err-page-clause-fault : goal.returns-in_err-page-clause-fault
returns-in_err-page-clause-fault g c =
    let p = err_from_is_err_and c.from_residual.result c.from_residual.ensures.1 in
    let names = names_of c.args.natives.now in
    let clock = g.C.Clock.held c.args.clock.now in
    rw p.1 (subst (Misses names c.args.path.now (g.P.Pages.held c.args.pages.now) (g.P.Pages.faults c.args.pages.now) clock (g.P.Pages.faults c.start_page.new.pages))
    (sym p.2) (c.in_err-page.ensures.fault names clock))

pub returns-clause-well : goal.returns-clause-well
returns-clause-well g c =
    let clock = g.C.Clock.held c.args.clock.now in
    (start_is (names_of c.args.natives.now) c.args.path.now (g.P.Pages.held c.args.pages.now) clock
    (g.P.Pages.faults c.args.pages.now) (g.P.Pages.faults c.start_page.new.pages) (g.P.Pages.faults c.define_first-end.new.pages)
    c.in_ok-page.page c.moment_of-moment.result c.in_ok-page.ensures.page
    (subst (IsReading clock) (sym c.moment_of-moment.ensures) (reading_is clock _ _ c.moment.ensures))
    c.start_page.ensures.faults (g.P.Pages.held c.start_page.new.pages) c.define_first-end.result c.started.result
    c.start_page.ensures.held c.define_first-end.ensures.ran c.started.ensures).0

pub returns-clause-fault : goal.returns-clause-fault
returns-clause-fault g c =
    let clock = g.C.Clock.held c.args.clock.now in
    (start_is (names_of c.args.natives.now) c.args.path.now (g.P.Pages.held c.args.pages.now) clock
    (g.P.Pages.faults c.args.pages.now) (g.P.Pages.faults c.start_page.new.pages) (g.P.Pages.faults c.define_first-end.new.pages)
    c.in_ok-page.page c.moment_of-moment.result c.in_ok-page.ensures.page
    (subst (IsReading clock) (sym c.moment_of-moment.ensures) (reading_is clock _ _ c.moment.ensures))
    c.start_page.ensures.faults (g.P.Pages.held c.start_page.new.pages) c.define_first-end.result c.started.result
    c.start_page.ensures.held c.define_first-end.ensures.ran c.started.ensures).1
