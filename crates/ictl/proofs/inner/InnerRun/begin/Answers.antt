use Rattle.std.proofs.Common.{◌≤◌, ◌+◌, [], sym, subst, ap, ◌∙◌, arith}
use Rattle.natives.specs.Names.{names_of}
use Rattle.cmd_table.specs.Commands.{Writes}
use Rattle.ictl.specs.Fresh.{build_steps}
use Rattle.ictl.specs.Defines.{inner_run}
use Rattle.ictl.specs.Falls.{suffices}
use Rattle.ictl.specs.declared.defining.DefineRun.{DefineRun}
use Rattle.ictl.specs.Within.{defined_own}
use Rattle.ictl.proofs.Inners.{begun_counts, begun_most}
use Rattle.ictl.proofs.Withins.{wants}
use Rattle.ictl.proofs.inner.InnerRun.begin.Goals as goal

pub start-requires-clause-suffices : goal.start-requires-clause-suffices
start-requires-clause-suffices g c = subst (λ (d : DefineRun). suffices c.args.budget d.questions) (sym c.new-defining.ensures) c.requires

pub start-requires-clause-value : goal.start-requires-clause-value
start-requires-clause-value g c = ap (λ (d : DefineRun). d.value) c.new-defining.ensures

pub returns-in-Ok-clause-asks : goal.returns-in-Ok-clause-asks
returns-in-Ok-clause-asks g c = c.in-Ok.ensures.asks

pub returns-in-Ok-clause-gives : goal.returns-in-Ok-clause-gives
returns-in-Ok-clause-gives g c = λ further.
    let names = names_of c.args.natives.now in
    let bp = c.args.blueprint.now.value in
    c.in-Ok.ensures.gives bp c.in_ok-engine.ensures.state further
    ∙ ap (λ (d : DefineRun). inner_run names bp c.args.moment c.args.words.now c.args.budget d.questions further) c.new-defining.ensures

pub returns-in-Ok-clause-counts : goal.returns-in-Ok-clause-counts
returns-in-Ok-clause-counts g c =
    let names = names_of c.args.natives.now in
    let bp = c.args.blueprint.now.value in
    begun_counts names bp c.args.moment c.in_ok-engine.engine (build_steps names bp.defs) c.args.steps.now c.engine_on.new.steps c.start.new.steps (Writes c.start.new.self.run.engine.made)
    c.in_ok-engine.ensures.state c.in_ok-engine.ensures.steps c.start.ensures.counts

pub returns-in-Err-clause-most : goal.returns-in-Err-clause-most
returns-in-Err-clause-most g c =
    let names = names_of c.args.natives.now in
    let bp = c.args.blueprint.now.value in
    begun_most names bp c.args.moment c.in_ok-engine.engine c.args.steps.now c.engine_on.new.steps c.start.new.steps (Writes c.start.new.self.run.engine.made) (build_steps names bp.defs)
    (defined_own (inner_run names bp c.args.moment c.args.words.now c.args.budget c.args.questions []))
    c.in_ok-engine.ensures.state c.in_ok-engine.ensures.steps c.start.ensures.counts
    (subst (λ (d : DefineRun). Writes c.start.new.self.run.engine.made ≤ defined_own (inner_run names bp c.args.moment c.args.words.now c.args.budget d.questions [])) c.new-defining.ensures
    (c.in-Err.ensures.most bp c.in_ok-engine.ensures.state))

pub returns-in_err-engine-clause-most : goal.returns-in_err-engine-clause-most
returns-in_err-engine-clause-most g c =
    wants c.from_residual.result _ (let most = c.engine_on.ensures.most in omega (arith, most))
