use Rattle.serve_run.proofs.crew.CrewServeConnOwnWorker.serve.Given as goal

abbrev pub ghosts-serve_counted : goal.ghosts-serve_counted
ghosts-serve_counted g a = record { name = a.blank.name; parts = a.blank.parts }
