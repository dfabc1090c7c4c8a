use Rattle.natives.specs.Names.{names_of}
use Rattle.ictl.proofs.Runs.{went_on, charged_back, asks_at, charged_suffices}
use Rattle.ictl.proofs.Withins.{went_writes}
use Rattle.ictl.proofs.running.Running.resume_charged.Goals as goal

pub returns-clause-gives : goal.returns-clause-gives
returns-clause-gives g c =
    went_on (names_of c.args.natives.now) c.resume-outcome.result c.in_ok-stop.stop (record { engine = c.resume-outcome.new.self }) c.charge.new.self c.args.self.now c.args.answer c.args.used
    c.in_ok-stop.ensures (charged_back c.charge.new.self c.args.self.now.engine c.args.used c.requires.left c.charge.ensures.change) c.resume-outcome.ensures.step

pub returns-clause-asks : goal.returns-clause-asks
returns-clause-asks g c =
    asks_at c.resume-outcome.result c.in_ok-stop.stop (record { engine = c.resume-outcome.new.self }) c.in_ok-stop.ensures c.resume-outcome.ensures.leaves

pub returns-clause-suffices : goal.returns-clause-suffices
returns-clause-suffices g c =
    charged_suffices c.resume-outcome.result c.in_ok-stop.stop (record { engine = c.resume-outcome.new.self }) (record { engine = c.charge.new.self }) c.args.self.now c.args.answer c.args.used
    c.in_ok-stop.ensures c.charge.ensures.change c.resume-outcome.ensures.falls

pub returns-clause-most : goal.returns-clause-most
returns-clause-most g c =
    went_writes (names_of c.args.natives.now) c.resume-outcome.new.self c.charge.new.self c.args.self.now c.args.answer c.args.used (charged_back c.charge.new.self c.args.self.now.engine c.args.used c.requires.left c.charge.ensures.change) c.resume-outcome.ensures.front

pub returns-in_err-stop-clause-most : goal.returns-in_err-stop-clause-most
returns-in_err-stop-clause-most g c =
    went_writes (names_of c.args.natives.now) c.resume-outcome.new.self c.charge.new.self c.args.self.now c.args.answer c.args.used (charged_back c.charge.new.self c.args.self.now.engine c.args.used c.requires.left c.charge.ensures.change) c.resume-outcome.ensures.front
