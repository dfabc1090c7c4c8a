use Rattle.tests_language.proofs.long.commands_that_cost_too_much.Given as goal

abbrev pub ghosts-check_commands : goal.ghosts-check_commands
ghosts-check_commands g a = record { name = a.blank.name; parts = a.blank.parts }
