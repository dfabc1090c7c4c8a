use Rattle.std.proofs.Common.{◌+◌, ◌*◌}
use Rattle.tcl_eval.proofs.simple_value.+simple.Given as goal

abbrev pub decreases-simple_value : goal.decreases-simple_value
decreases-simple_value l = 8 * l.room

abbrev pub decreases-simple_unary : goal.decreases-simple_unary
decreases-simple_unary l = 8 * l.room + 1

abbrev pub decreases-simple_right : goal.decreases-simple_right
decreases-simple_right l = 8 * l.room + 1

abbrev pub decreases-simple_left : goal.decreases-simple_left
decreases-simple_left l = 8 * l.room + 2

abbrev pub decreases-simple_binary : goal.decreases-simple_binary
decreases-simple_binary l = 8 * l.room + 3

abbrev pub decreases-simple_chosen : goal.decreases-simple_chosen
decreases-simple_chosen l = 8 * l.room + 1

abbrev pub decreases-simple_tested : goal.decreases-simple_tested
decreases-simple_tested l = 8 * l.room + 2

abbrev pub decreases-simple_choice : goal.decreases-simple_choice
decreases-simple_choice l = 8 * l.room + 3
