use Rattle.std.proofs.Common.{◌≡◌, ◌+◌, ◌∷◌, List, [], drop, subst, arith}
use Rattle.std.proofs.lemmas.List.{drop_all}
use Rattle.cmd_table.specs.declared.definition.Def.{Def}
use Rattle.ictl.proofs.Buildings.{Making, here, makes_one, makes_most, all_made}
use Rattle.ictl.proofs.building.define_on.Goals as goal

pub defs-preserved : goal.defs-preserved
defs-preserved g c =
    let left = here c.args.defs.now c.defs.def-index c.def-item.result c.defs-test.true c.def-item.is in
    makes_one c.args.table.now c.defs.table c.try_apply.new.self c.args.frames.now c.defs.frames c.keep_in.new.frames c.args.defs.now (drop (c.defs.def-index + 1) c.args.defs.now) c.def-item.result
    c.args.steps.now c.defs.steps c.try_apply.new.steps
    (subst (λ (l : List Def). Making c.args.table.now c.defs.table c.args.frames.now c.defs.frames c.args.defs.now l c.args.steps.now c.defs.steps) left c.defs.invariant)
    c.in_ok-try_apply.ensures.table c.in_ok-keep_in.ensures c.in_ok-try_apply.ensures.steps

pub returns-clause-table : goal.returns-clause-table
returns-clause-table g c =
    (all_made c.args.table.now c.defs.table c.args.frames.now c.defs.frames c.args.defs.now (drop c.defs.def-index c.args.defs.now) c.args.steps.now c.defs.steps c.defs.invariant (drop_all c.defs.def-index c.args.defs.now (omega arith))).0

pub returns-clause-frames : goal.returns-clause-frames
returns-clause-frames g c =
    (all_made c.args.table.now c.defs.table c.args.frames.now c.defs.frames c.args.defs.now (drop c.defs.def-index c.args.defs.now) c.args.steps.now c.defs.steps c.defs.invariant (drop_all c.defs.def-index c.args.defs.now (omega arith))).1

pub returns-clause-steps : goal.returns-clause-steps
returns-clause-steps g c =
    (all_made c.args.table.now c.defs.table c.args.frames.now c.defs.frames c.args.defs.now (drop c.defs.def-index c.args.defs.now) c.args.steps.now c.defs.steps c.defs.invariant (drop_all c.defs.def-index c.args.defs.now (omega arith))).2
