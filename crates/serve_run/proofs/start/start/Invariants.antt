use Rattle.serve_run.proofs.start.start.Given as goal

abbrev pub ghosts-define_first : goal.ghosts-define_first
ghosts-define_first g a = record { name = a.blank.name; parts = a.blank.parts }
