use Rattle.tests_rehearsals.proofs.large.a_file_ends_at_its_last_byte.Given as goal

abbrev pub ghosts-check_whole_file : goal.ghosts-check_whole_file
ghosts-check_whole_file g a = record { name = a.blank.name; parts = a.blank.parts }
