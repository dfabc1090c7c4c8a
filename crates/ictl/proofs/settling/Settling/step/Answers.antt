use Rattle.std.proofs.Common.{◌≡◌, ◌+◌, ◌-◌, suc, [], subst, ◌∙◌, arith}
use Rattle.natives.specs.Names.{names_of}
use Rattle.ictl.specs.Standing.{written}
use Rattle.ictl.specs.Within.{SettledWithin}
use Rattle.ictl.proofs.Settlings.{done_step, spent_step, deep_step, asks_step, inner_step}
use Rattle.ictl.proofs.Withins.{wants}
use Rattle.ictl.proofs.settling.Settling.step.Goals as goal

pub returns-in-Ended-clause-gives : goal.returns-in-Ended-clause-gives
returns-in-Ended-clause-gives g c = λ inside further.
    let names = names_of c.args.natives.now in
    let bp = c.args.blueprint.now.value in
    done_step names bp c.args.moment c.args.stop c.in-Ended.code c.in-Ended.result c.args.self.now inside _ further c.in-Ended.is

pub returns-in-Spent-clause-gives : goal.returns-in-Spent-clause-gives
returns-in-Spent-clause-gives g c = λ inside further.
    let names = names_of c.args.natives.now in
    let bp = c.args.blueprint.now.value in
    spent_step names bp c.args.moment c.args.stop c.args.self.now inside _ further c.in-Spent.is

pub returns-in-TooDeep-clause-gives : goal.returns-in-TooDeep-clause-gives
returns-in-TooDeep-clause-gives g c = λ inside further.
    let names = names_of c.args.natives.now in
    let bp = c.args.blueprint.now.value in
    deep_step names bp c.args.moment c.args.stop c.args.self.now inside _ further c.in-TooDeep.is

pub returns-in_default-clause-gives : goal.returns-in_default-clause-gives
returns-in_default-clause-gives g c = λ inside further.
    let names = names_of c.args.natives.now in
    let bp = c.args.blueprint.now.value in
    let s = c.args.self.now in
    let enough = rw c.in-Asks.is at c.requires.suffices in
    let one : s.questions ≡ suc (s.questions - 1) = omega (arith, enough) in
    asks_step names bp c.args.moment c.args.stop c.in-Asks.question (s.questions - 1) s inside _ further c.in-Asks.is one c.in_default.not-Inner c.requires.inner

pub returns-in_ok-step-in-Inner-clause-gives : goal.returns-in_ok-step-in-Inner-clause-gives
returns-in_ok-step-in-Inner-clause-gives g c = λ inside further.
    let names = names_of c.args.natives.now in
    let bp = c.args.blueprint.now.value in
    let s = c.args.self.now in
    let enough = rw c.in-Asks.is at c.requires.suffices in
    let one : s.questions ≡ suc (s.questions - 1) = omega (arith, enough) in
    c.in_ok-step-in-Inner.ensures.gives c.in-Asks.question inside further
    ∙ inner_step names bp c.args.moment c.args.stop c.in-Asks.question (s.questions - 1) s inside further c.in-Asks.is one c.in-Inner.is

pub returns-in_err-step-in-Inner-clause-most : goal.returns-in_err-step-in-Inner-clause-most
returns-in_err-step-in-Inner-clause-most g c = wants c.from_residual.result _ (λ inside.
    let names = names_of c.args.natives.now in
    let bp = c.args.blueprint.now.value in
    let s = c.args.self.now in
    let enough = rw c.in-Asks.is at c.requires.suffices in
    let one : s.questions ≡ suc (s.questions - 1) = omega (arith, enough) in
    subst (SettledWithin (inside + written names bp s) c.args.steps.now c.enter.new.steps c.enter.new.self)
    (inner_step names bp c.args.moment c.args.stop c.in-Asks.question (s.questions - 1) s inside [] c.in-Asks.is one c.in-Inner.is)
    (c.in_err-step-in-Inner.ensures.most c.in-Asks.question inside))
