use Rattle.tests_rehearsals.proofs.machine.files_end_as_they_must.Given as goal

abbrev pub ghosts-check_short_files : goal.ghosts-check_short_files
ghosts-check_short_files g a = record { name = a.blank.name; parts = a.blank.parts }
