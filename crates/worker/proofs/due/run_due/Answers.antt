use Rattle.std.proofs.Common.{refl}
use Rattle.std.specs.Prelude.{None}
use Rattle.natives.specs.Names.{names_of}
use Rattle.sched_core.specs.declared.call.SchedReply.TheVariants as scheduled
use Rattle.worker.specs.Sessions.{at}
use Rattle.worker.proofs.Listing.{asks_due, runs_listed}
use Rattle.worker.proofs.OneItem.{ticked}
use Rattle.worker.proofs.due.run_due.Goals as goal

pub returns-in-Due-clause-runs : goal.returns-in-Due-clause-runs
returns-in-Due-clause-runs g c =
    let names = names_of c.args.natives.now in
    let held = g.P.Pages.held c.args.pages.now in
    let p = c.args.passes.now in
    let a = at p c.args.worker.now (g.C.Clock.held c.args.clock.now) None (g.P.Pages.faults c.args.pages.now) c.args.steps.now in
    let m = at (record p { schedule = c.turn-turned.new.pass }) c.args.worker.now (g.C.Clock.held c.moment.new.self) None (g.P.Pages.faults c.args.pages.now) c.args.steps.now in
    let b = at c.run_all.new.passes c.run_all.new.worker (g.C.Clock.held c.run_all.new.clock) None (g.P.Pages.faults c.run_all.new.pages) c.run_all.new.steps in
    runs_listed names held c.in-Due.list a m b c.run_all.result
    (asks_due names held a m c.turn-turned.result.place c.moment_of.result (scheduled.Due c.in-Due.list) (rw c.in-Due.is at c.turn-turned.ensures.turn) refl refl
    (ticked _ _ c.moment.result c.moment_of.result c.moment.ensures c.moment_of.ensures) refl refl refl)
    (rw c.in-Due.is at c.run_all.ensures.runs)
