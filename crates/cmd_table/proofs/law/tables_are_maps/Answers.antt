use Rattle.cmd_table.proofs.Maps.{putting, removing, all_built}
use Rattle.cmd_table.proofs.Orders.{in_order}
use Rattle.cmd_table.proofs.law.tables_are_maps.Goals as goal

pub returns-clause-putting : goal.returns-clause-putting
returns-clause-putting c = putting

pub returns-clause-removing : goal.returns-clause-removing
returns-clause-removing c = removing

pub returns-clause-order : goal.returns-clause-order
returns-clause-order c = in_order

pub returns-clause-built : goal.returns-clause-built
returns-clause-built c = all_built
