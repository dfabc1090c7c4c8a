use Rattle.natives.specs.Names.{names_of}
use Rattle.ictl.proofs.Runs.{began, asks_at, began_suffices}
use Rattle.ictl.proofs.Withins.{began_writes}
use Rattle.ictl.proofs.running.Running.start.Goals as goal

pub returns-clause-gives : goal.returns-clause-gives
returns-clause-gives g c = λ given.
    began (names_of c.args.natives.now) c.start-outcome.result c.in_ok-stop.stop c.args.depth c.args.budget c.args.work _ _ (record { engine = c.start-outcome.new.self }) given
    c.in_ok-stop.ensures c.abandon.ensures.state c.start-outcome.ensures.stands

pub returns-clause-asks : goal.returns-clause-asks
returns-clause-asks g c =
    asks_at c.start-outcome.result c.in_ok-stop.stop (record { engine = c.start-outcome.new.self }) c.in_ok-stop.ensures c.start-outcome.ensures.leaves

pub returns-clause-suffices : goal.returns-clause-suffices
returns-clause-suffices g c =
    began_suffices c.start-outcome.result c.in_ok-stop.stop (record { engine = c.start-outcome.new.self }) c.args.budget c.in_ok-stop.ensures c.start-outcome.ensures.falls

pub returns-clause-most : goal.returns-clause-most
returns-clause-most g c =
    began_writes (names_of c.args.natives.now) c.args.depth c.args.budget c.args.work _ _ c.start-outcome.new.self c.abandon.ensures.state c.start-outcome.ensures.front

pub returns-in_err-stop-clause-most : goal.returns-in_err-stop-clause-most
returns-in_err-stop-clause-most g c =
    began_writes (names_of c.args.natives.now) c.args.depth c.args.budget c.args.work _ _ c.start-outcome.new.self c.abandon.ensures.state c.start-outcome.ensures.front
