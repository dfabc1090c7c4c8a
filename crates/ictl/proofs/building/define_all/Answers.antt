use Rattle.std.proofs.Common.{◌≡◌, ◌+◌, ◌∷◌, List, [], None, drop, length, subst, refl, ap, ◌∙◌, sym, arith}
use Rattle.std.proofs.lemmas.List.{drop_all}
use Rattle.cmd_table.specs.declared.definition.Def.{Def}
use Rattle.blueprint.specs.States.{first_misfit}
use Rattle.ictl.proofs.Buildings.{Defining, here, keepable, defines_none, defines_one, defines_same, defines_all, all_defined}
use Rattle.ictl.proofs.Updates.{fits_first}
use Rattle.ictl.proofs.building.define_all.Goals as goal

pub defs-init : goal.defs-init
defs-init g c = defines_none c.args.engine.now c.args.defs.now c.args.steps.now c.requires.applies c.requires.idle c.requires.base

pub define-requires-clause-applies : goal.define-requires-clause-applies
define-requires-clause-applies g c =
    let left = here c.args.defs.now c.defs.def-index c.def-item.result c.defs-test.true c.def-item.is in
    let table = c.defs.engine.table.table in
    (c.definitions_fit_where_they_apply.ensures table c.def-item.result).0
    (fits_first table c.def-item.result (drop (c.defs.def-index + 1) c.args.defs.now) (subst (λ (l : List Def). first_misfit table l ≡ None) left c.defs.invariant.applies))

pub define-requires-clause-base : goal.define-requires-clause-base
define-requires-clause-base g c = keepable c.def-item.result c.defs.engine.frames c.defs.invariant.base

pub defs-preserved : goal.defs-preserved
defs-preserved g c =
    let left = here c.args.defs.now c.defs.def-index c.def-item.result c.defs-test.true c.def-item.is in
    defines_one c.args.engine.now c.defs.engine c.define.new.self c.args.defs.now (drop (c.defs.def-index + 1) c.args.defs.now) c.def-item.result c.args.steps.now c.defs.steps c.define.new.steps
    (subst (λ (l : List Def). Defining c.args.engine.now c.defs.engine c.args.defs.now l c.args.steps.now c.defs.steps) left c.defs.invariant)
    c.in_ok-define.ensures.ok c.in_ok-define.ensures.steps c.define.ensures.keeps c.define.ensures.marks c.define.ensures.idle

pub returns-clause-ok : goal.returns-clause-ok
returns-clause-ok g c =
    all_defined c.args.engine.now c.defs.engine c.args.defs.now c.args.steps.now c.defs.steps
    (defines_all c.args.engine.now c.defs.engine c.args.defs.now (drop c.defs.def-index c.args.defs.now) c.args.steps.now c.defs.steps c.defs.invariant (drop_all c.defs.def-index c.args.defs.now (omega arith)))

pub returns-clause-steps : goal.returns-clause-steps
returns-clause-steps g c =
    let end = defines_all c.args.engine.now c.defs.engine c.args.defs.now (drop c.defs.def-index c.args.defs.now) c.args.steps.now c.defs.steps c.defs.invariant (drop_all c.defs.def-index c.args.defs.now (omega arith)) in
    let steps = end.steps in
    omega (arith, steps)

pub returns-clause-most : goal.returns-clause-most
returns-clause-most g c = let steps = c.defs.invariant.steps in omega (arith, steps)
