use Rattle.cmd_table.proofs.Places.{places_in_order, places_of_commands, places_go_back}
use Rattle.cmd_table.proofs.law.places_are_of_commands.Goals as goal

pub returns-clause-order : goal.returns-clause-order
returns-clause-order c = places_in_order

pub returns-clause-commands : goal.returns-clause-commands
returns-clause-commands c = places_of_commands

pub returns-clause-back : goal.returns-clause-back
returns-clause-back c = places_go_back
