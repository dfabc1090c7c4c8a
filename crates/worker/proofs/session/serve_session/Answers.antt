use Rattle.natives.specs.Names.{names_of}
use Rattle.worker.specs.Lists.{listed}
use Rattle.worker.specs.Sessions.{at}
use Rattle.worker.proofs.Turning.{keeps_units}
use Rattle.worker.proofs.Claiming.{promised, promised_units}
use Rattle.worker.proofs.session.serve_session.Goals as goal

pub returns-clause-promised : goal.returns-clause-promised
returns-clause-promised g c = promised _ _ _ (g.S.Source.rest c.args.source.now) _ _ _ _ _ (g.S.Source.faults c.args.source.now) (g.S.Source.faults c.run_session-session.new.source) (g.K.Sink.faults c.args.sink.now) (g.K.Sink.faults c.run_session-session.new.sink) c.run_session-session.ensures.ran c.run_session-session.ensures.causes

pub returns-clause-units : goal.returns-clause-units
returns-clause-units g c =
    let names = names_of c.args.natives.now in
    let held = g.P.Pages.held c.args.pages.now in
    let input = g.S.Source.rest c.args.source.now in
    let unread = g.S.Source.rest c.run_session-session.new.source in
    let a = at c.args.passes.now c.args.worker.now (g.C.Clock.held c.args.clock.now) (g.K.Sink.taken c.args.sink.now) (g.P.Pages.faults c.args.pages.now) c.args.steps.now in
    let b = at c.run_session-session.new.passes c.run_session-session.new.worker (g.C.Clock.held c.run_session-session.new.clock) (g.K.Sink.taken c.run_session-session.new.sink) (g.P.Pages.faults c.run_session-session.new.pages) c.run_session-session.new.steps in
    let end = c.run_session-session.result.end in
    let served = listed c.run_session-session.result.served in
    let f = g.S.Source.faults c.args.source.now in
    let h = g.K.Sink.faults c.args.sink.now in
    let t = promised_units names held c.args.peer.now input unread a end served b f (g.S.Source.faults c.run_session-session.new.source) h (g.K.Sink.faults c.run_session-session.new.sink)
    (promised names held c.args.peer.now input unread a end served b f (g.S.Source.faults c.run_session-session.new.source) h (g.K.Sink.faults c.run_session-session.new.sink) c.run_session-session.ensures.ran c.run_session-session.ensures.causes) in
    keeps_units c.args.passes.now c.run_session-session.new.passes t.0 t.1
