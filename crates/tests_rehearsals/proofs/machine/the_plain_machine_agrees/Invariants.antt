use Rattle.tests_rehearsals.proofs.machine.the_plain_machine_agrees.Given as goal

abbrev pub ghosts-check_machines : goal.ghosts-check_machines
ghosts-check_machines g a = record { name = a.blank.name; parts = a.blank.parts }
