use Rattle.tests_rehearsals.proofs.machine.files_have_their_listings.Given as goal

abbrev pub ghosts-check_listings : goal.ghosts-check_listings
ghosts-check_listings g a = record { name = a.blank.name; parts = a.blank.parts }
