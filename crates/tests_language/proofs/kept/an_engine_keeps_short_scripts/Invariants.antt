use Rattle.tests_language.proofs.kept.an_engine_keeps_short_scripts.Given as goal

abbrev pub ghosts-check_hits : goal.ghosts-check_hits
ghosts-check_hits g a = record { name = a.blank.name; parts = a.blank.parts }
