use Rattle.tests_sessions.proofs.counted.run_at.Given as goal

abbrev pub ghosts-due_counted : goal.ghosts-due_counted
ghosts-due_counted g a = record { name = a.blank.name; parts = a.blank.parts }
