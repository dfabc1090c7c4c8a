use Rattle.std.proofs.Common.{◌+◌, ◌-◌, ◌≤◌, [], subst, arith}
use Rattle.natives.specs.Names.{names_of}
use Rattle.ictl.specs.Standing.{written}
use Rattle.ictl.specs.Within.{SettledWithin}
use Rattle.ictl.proofs.Withins.{settled_from, wants}
use Rattle.ictl.proofs.Lasting.{lasts_on, lasts_same}
use Rattle.ictl.proofs.Settlings.{both_counted, goes_none, goes_twice, then_on}
use Rattle.ictl.proofs.settling.Settling.go_on.Goals as goal

pub runs-init : goal.runs-init
runs-init g c =
    let names = names_of c.args.natives.now in
    let bp = c.args.blueprint.now.value in
    record {
      gives = λ inside further. goes_none names bp c.args.moment c.args.stop c.args.self.now inside _ further;
      counts = omega arith;
      lasts = lasts_same c.args.self.now.run.engine;
      none = c.requires.inner;
      asks = c.requires.asks;
      suffices = c.requires.suffices;
      fewer = omega arith;
    }

pub runs-preserved : goal.runs-preserved
runs-preserved g c =
    let names = names_of c.args.natives.now in
    let bp = c.args.blueprint.now.value in
    let s = c.args.self.now in
    let st = rw c.in-Goes.is at c.in_ok-step.ensures.gives in
    let goes = rw c.in-Goes.is at c.in_ok-step.ensures.goes in
    let at = rw c.in-Goes.is at c.in_ok-step.ensures.at in
    let i = c.runs.invariant in
    record {
      gives = λ inside further. goes_twice names bp c.args.moment c.args.stop c.runs.stop c.in-Goes.next s c.runs.self c.step.new.self inside c.args.steps.now c.runs.steps c.step.new.steps further
          i.counts c.step.ensures.counts (i.gives inside further) (λ n. st n further);
      counts = both_counted c.args.steps.now c.runs.steps c.step.new.steps (written names bp s) (written names bp c.runs.self) (written names bp c.step.new.self) i.counts c.step.ensures.counts;
      lasts = lasts_on c.step.new.self.run.engine c.runs.self.run.engine s.run.engine c.step.ensures.lasts i.lasts;
      none = goes.0;
      asks = at.0;
      suffices = at.1;
      fewer = let e = c.step.ensures.lower in let f = i.fewer in omega (arith, e, f);
    }

pub runs-smaller : goal.runs-smaller
runs-smaller g c =
    let goes = rw c.in-Goes.is at c.in_ok-step.ensures.goes in
    goes.1

pub returns-in-Stops-clause-gives : goal.returns-in-Stops-clause-gives
returns-in-Stops-clause-gives g c = λ inside further.
    let names = names_of c.args.natives.now in
    let bp = c.args.blueprint.now.value in
    let s = c.args.self.now in
    let st = rw c.in-Stops.is at c.in_ok-step.ensures.gives in
    then_on names bp c.args.moment c.runs.stop c.in-Stops.last s c.runs.self c.step.new.self inside c.args.steps.now c.runs.steps c.step.new.steps further _
    c.runs.invariant.counts c.step.ensures.counts (c.runs.invariant.gives inside further) (λ n. st n further)

pub returns-in_err-step-clause-most : goal.returns-in_err-step-clause-most
returns-in_err-step-clause-most g c = wants c.from_residual.result _ (λ inside.
    let names = names_of c.args.natives.now in
    let bp = c.args.blueprint.now.value in
    let s = c.args.self.now in
    let i = c.runs.invariant in
    let n = inside + ((c.runs.steps + written names bp s) - (c.args.steps.now + written names bp c.runs.self)) in
    let counts : c.args.steps.now + written names bp c.runs.self ≤ c.runs.steps + written names bp s = i.counts in
    settled_from (inside + written names bp s) (n + written names bp c.runs.self) c.args.steps.now c.runs.steps c.step.new.steps c.step.new.self _ (omega (arith, counts))
    (subst (SettledWithin (n + written names bp c.runs.self) c.runs.steps c.step.new.steps c.step.new.self) (i.gives inside []) (c.in_err-step.ensures.most n)))
