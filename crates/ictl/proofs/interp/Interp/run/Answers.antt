use Rattle.std.proofs.Common.{ap, ◌+◌}
use Rattle.natives.specs.Names.{names_of}
use Rattle.ictl.specs.Settle.{Settled}
use Rattle.ictl.specs.Interps.{task_end, interp_written}
use Rattle.ictl.proofs.Interpreters.{stop_falls}
use Rattle.ictl.proofs.Withins.{task_within, wants}
use Rattle.ictl.proofs.interp.Interp.run.Goals as goal

pub returns-clause-gives : goal.returns-clause-gives
returns-clause-gives g c = λ inside further.
    ap (λ (x : Settled). task_end (names_of c.args.natives.now) c.args.self.now c.args.task x) (c.in_ok-stop.ensures.gives inside further)

pub returns-clause-falls : goal.returns-clause-falls
returns-clause-falls g c = λ before fewer ends.
    stop_falls c.in_ok-stop.stop c.args.task c.start.new.self c.args.self.now.settling before c.start.ensures.lower ends (c.in_ok-stop.ensures.falls before fewer)

pub returns-in_err-stop-clause-most : goal.returns-in_err-stop-clause-most
returns-in_err-stop-clause-most g c = wants c.from_residual.result _ (λ inside.
    let names = names_of c.args.natives.now in
    let old = c.args.self.now in
    task_within c.made_grows.ensures names old c.args.task _ (inside + interp_written names old) c.args.steps.now c.start.new.steps (record old { settling = c.start.new.self }) (c.in_err-stop.ensures.most inside))
