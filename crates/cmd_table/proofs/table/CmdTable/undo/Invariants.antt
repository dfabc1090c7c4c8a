use Rattle.std.proofs.Common.{◌≡◌, ◌≤◌, ◌+◌}
use Rattle.cmd_table.specs.Table.{mark_of, back_at}
use Rattle.cmd_table.proofs.table.CmdTable.undo.Given as goal

-- the mark is still one of the table's, and of the same state; each change that was taken back was a step
abbrev pub invariant-changes : goal.invariant-changes
invariant-changes g l =
    (l.mark ≤ mark_of l.self) × (back_at l.self l.mark ≡ back_at l.fn.self l.mark) × (l.steps + mark_of l.self ≡ l.fn.steps + mark_of l.fn.self)

abbrev pub decreases-changes : goal.decreases-changes
decreases-changes g l = mark_of l.self
