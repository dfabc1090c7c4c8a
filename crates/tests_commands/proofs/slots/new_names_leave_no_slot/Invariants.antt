use Rattle.tests_commands.proofs.slots.new_names_leave_no_slot.Given as goal

abbrev pub ghosts-counts : goal.ghosts-counts
ghosts-counts g a = record { name = a.blank.name; parts = a.blank.parts }
