use Rattle.std.proofs.Common.{refl, arith}
use Rattle.natives.specs.Names.{names_of}
use Rattle.tcl_eval.specs.declared.outcome.Work.TheVariants.{Call}
use Rattle.ictl.proofs.Interpreters.{ok_same, holds_on, ends_less, from_outset, outset_counts}
use Rattle.ictl.proofs.Withins.{err_same, outset_within}
use Rattle.ictl.proofs.interp.Interp.call.Goals as goal

pub returns-clause-gives : goal.returns-clause-gives
returns-clause-gives g c =
    let old = c.args.self.now in
    ok_same c.run.result _ _
    (λ step h inside further. from_outset (names_of c.args.natives.now) (Call c.args.words) c.args.task old c.run.new.self (record old.settling { run = c.set_out.new.self }) step c.args.budget inside
    c.run.new.steps c.args.steps.now further c.set_out.ensures.state refl refl (h inside further))
    c.run.ensures.gives

pub returns-clause-counts : goal.returns-clause-counts
returns-clause-counts g c =
    let old = c.args.self.now in
    outset_counts (names_of c.args.natives.now) old c.run.new.self (record old.settling { run = c.set_out.new.self }) c.run.new.steps c.args.steps.now c.set_out.ensures.state refl c.run.ensures.counts

pub returns-clause-holds : goal.returns-clause-holds
returns-clause-holds g c =
    let old = c.args.self.now in
    holds_on c.run.new.self (record old { settling = record old.settling { run = c.set_out.new.self } }) old c.run.ensures.holds
    (record { engine = c.set_out.ensures.lasts; blueprint = refl; mark = refl; routes = refl; cleanups = refl; authorises = refl })

pub returns-clause-falls : goal.returns-clause-falls
returns-clause-falls g c =
    ok_same c.run.result _ _ (λ step h before less. h before (omega (arith, less)) (ends_less c.args.task (record c.args.self.now.settling { run = c.set_out.new.self }) before less)) c.run.ensures.falls

pub returns-clause-most : goal.returns-clause-most
returns-clause-most g c =
    let names = names_of c.args.natives.now in
    let old = c.args.self.now in
    err_same c.run.result _ _
    (λ h inside. outset_within names (Call c.args.words) c.args.task old c.run.new.self (record old.settling { run = c.set_out.new.self }) c.args.budget inside c.args.steps.now c.run.new.steps c.set_out.ensures.state refl refl (h inside))
    c.run.ensures.most
