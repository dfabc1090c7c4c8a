use Rattle.blueprint.proofs.blueprint.Blueprint.new.Given as goal

abbrev pub ghosts-built_names : goal.ghosts-built_names
ghosts-built_names g a = record { name = a.blank.name; parts = a.blank.parts }
