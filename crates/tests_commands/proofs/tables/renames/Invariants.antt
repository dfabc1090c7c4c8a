use Rattle.tests_commands.proofs.tables.renames.Given as goal

abbrev pub ghosts-listing : goal.ghosts-listing
ghosts-listing g a = record { name = a.blank.name; parts = a.blank.parts }
