use Rattle.std.proofs.Common.{◌<◌, ◌≤◌, ◌∙◌, sym, arith}
use Rattle.cmd_table.specs.Table.{mark_of}
use Rattle.cmd_table.proofs.States.{one_back, all_back}
use Rattle.cmd_table.proofs.table.CmdTable.undo.Goals as goal

pub changes-preserved : goal.changes-preserved
changes-preserved g c =
    let before = c.changes.invariant in
    let below : c.args.mark < mark_of c.changes.self = omega (arith, c.mark.ensures, c.changes-test.true) in
    let back = one_back c.changes.self c.take_back.new.self c.args.mark c.take_back.ensures below in
    (back.0, back.1 ∙ before.1, omega (arith, back.2, before.2, c.tick.ensures))

pub returns-clause-table : goal.returns-clause-table
returns-clause-table g c =
    let before = c.changes.invariant in
    let all : mark_of c.changes.self ≤ c.args.mark = omega (arith, c.mark.ensures, c.changes-test.false) in
    sym (all_back c.changes.self c.args.mark before.0 all) ∙ before.1

pub returns-clause-steps : goal.returns-clause-steps
returns-clause-steps g c =
    let before = c.changes.invariant in
    omega (arith, before.0, before.2, c.mark.ensures, c.changes-test.false)
