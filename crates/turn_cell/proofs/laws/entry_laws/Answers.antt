use Rattle.txt_core.proofs.Members.{has_is_contains, append_has}
use Rattle.turn_cell.proofs.Members.{left_is_after, append_left}
use Rattle.turn_cell.proofs.laws.entry_laws.Goals as goal

pub returns : goal.returns
returns g c = record { contains = has_is_contains; append = append_has; left = left_is_after; append_left = append_left }
