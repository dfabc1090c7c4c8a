use Rattle.tests_rehearsals.proofs.large.large_files_have_their_limits.Given as goal

abbrev pub ghosts-check_large_files : goal.ghosts-check_large_files
ghosts-check_large_files g a = record { name = a.blank.name; parts = a.blank.parts }
