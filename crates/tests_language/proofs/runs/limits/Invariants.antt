use Rattle.tests_language.proofs.runs.limits.Given as goal

abbrev pub ghosts-check_limits : goal.ghosts-check_limits
ghosts-check_limits g a = record { name = a.blank.name; parts = a.blank.parts }
