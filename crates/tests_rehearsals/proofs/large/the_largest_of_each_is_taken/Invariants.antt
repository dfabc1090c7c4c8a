use Rattle.tests_rehearsals.proofs.large.the_largest_of_each_is_taken.Given as goal

abbrev pub ghosts-check_largest : goal.ghosts-check_largest
ghosts-check_largest g a = record { name = a.blank.name; parts = a.blank.parts }
