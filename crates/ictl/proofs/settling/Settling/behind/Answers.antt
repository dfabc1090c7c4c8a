use Rattle.std.proofs.Common.{ℕ, ◌+◌, ◌-◌, refl, ap, ◌∙◌, Option, Some}
use Rattle.natives.specs.Names.{names_of}
use Rattle.ictl.specs.Standing.{settling_gives, written, inner_written}
use Rattle.ictl.specs.declared.inner.InnerRun.{InnerRun}
use Rattle.ictl.specs.declared.running.Stop.TheVariants as stops
use Rattle.ictl.proofs.Withins.{said_within, wants}
use Rattle.ictl.proofs.Settlings.{stands_behind, gone_behind, sunk_behind, said_behind}
use Rattle.ictl.proofs.settling.Settling.behind.Goals as goal

pub returns-in-Stands-clause-gives : goal.returns-in-Stands-clause-gives
returns-in-Stands-clause-gives g c = λ question inside further.
    let names = names_of c.args.natives.now in
    let bp = c.args.blueprint.now.value in
    let s = c.args.self.now in
    let count = c.args.steps.now in
    ap (λ (i : Option InnerRun). settling_gives names bp c.args.moment (stops.Asks c.in-Stands.question) (record s { inner = i })
    (inside + ((count + (written names bp s + inner_written names bp (Some c.args.inner))) - (count + written names bp (record s { inner = i })))) further) c.replace.ensures.after
    ∙ stands_behind names bp c.args.moment question c.in-Stands.question c.args.stop c.args.inner s inside count further c.in-Stands.is c.requires.inner

pub returns-in-Gone-clause-gives : goal.returns-in-Gone-clause-gives
returns-in-Gone-clause-gives g c = λ question inside further.
    gone_behind (names_of c.args.natives.now) c.args.blueprint.now.value c.args.moment question c.args.stop c.args.inner c.args.self.now inside c.args.steps.now further c.in-Gone.is c.requires.inner

pub returns-in-Sunk-clause-gives : goal.returns-in-Sunk-clause-gives
returns-in-Sunk-clause-gives g c = λ question inside further.
    sunk_behind (names_of c.args.natives.now) c.args.blueprint.now.value c.args.moment question c.args.stop c.args.inner c.args.self.now inside c.args.steps.now further c.in-Sunk.is c.requires.inner

pub returns-in_ok-came-in-Said-clause-gives : goal.returns-in_ok-came-in-Said-clause-gives
returns-in_ok-came-in-Said-clause-gives g c = λ question inside further.
    let s = c.args.self.now in
    said_behind (names_of c.args.natives.now) c.args.blueprint.now.value c.args.moment question c.in-Said.answer c.saturating_sub-used.result c.in_ok-came-in-Said.came c.args.stop c.args.inner
    (record s { run = c.resume_charged.new.self }) s inside c.args.steps.now c.resume_charged.new.steps further
    c.in-Said.is c.requires.inner c.requires.inner refl
    (c.saturating_sub-used.ensures ∙ ap (λ (n : ℕ). n - c.left-in-Said.result) c.left.ensures ∙ ap (λ (n : ℕ). s.run.engine.budget - n) c.left-in-Said.ensures)
    c.resume_charged.ensures.counts c.in_ok-came-in-Said.ensures.gives

pub returns-in_err-came-in-Said-clause-most : goal.returns-in_err-came-in-Said-clause-most
returns-in_err-came-in-Said-clause-most g c = wants c.from_residual.result _ (λ question inside.
    let s = c.args.self.now in
    said_within (names_of c.args.natives.now) c.args.blueprint.now.value c.args.moment question c.in-Said.answer c.saturating_sub-used.result c.args.stop c.args.inner
    (record s { run = c.resume_charged.new.self }) s inside c.args.steps.now c.resume_charged.new.steps c.in-Said.is c.requires.inner
    (c.saturating_sub-used.ensures ∙ ap (λ (n : ℕ). n - c.left-in-Said.result) c.left.ensures ∙ ap (λ (n : ℕ). s.run.engine.budget - n) c.left-in-Said.ensures)
    c.resume_charged.ensures.counts (c.resume_charged.ensures.most question))
