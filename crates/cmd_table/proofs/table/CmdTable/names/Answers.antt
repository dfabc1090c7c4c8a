use Rattle.std.proofs.Common.{subst}
use Rattle.cmd_table.specs.Table.{State, IsInOrder}
use Rattle.cmd_table.proofs.Changes.{present_in_order}
use Rattle.cmd_table.proofs.table.CmdTable.names.Goals as goal

pub returns-clause-ordered : goal.returns-clause-ordered
returns-clause-ordered c = subst (λ (s : State). IsInOrder s.table) c.self.view_is (present_in_order c.self.inside.slots.entries c.self.invariant.0)
