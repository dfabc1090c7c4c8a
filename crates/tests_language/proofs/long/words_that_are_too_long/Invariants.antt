use Rattle.tests_language.proofs.long.words_that_are_too_long.Given as goal

abbrev pub ghosts-check_words : goal.ghosts-check_words
ghosts-check_words g a = record { name = a.blank.name; parts = a.blank.parts }
