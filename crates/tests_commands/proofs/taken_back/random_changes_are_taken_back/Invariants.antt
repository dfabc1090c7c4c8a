use Rattle.tests_commands.proofs.taken_back.random_changes_are_taken_back.Given as goal

abbrev pub ghosts-agreeing : goal.ghosts-agreeing
ghosts-agreeing g a = record { name = a.blank.name; parts = a.blank.parts }
