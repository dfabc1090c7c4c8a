use Rattle.turn_cell.specs.Cells.{IsOf, pass_view}
use Rattle.tests_cells.specs.Counts.{TakesCount}
use Rattle.tests_cells.proofs.counters.count.Given as goal

abbrev pub invariant-loop-done : goal.invariant-loop-done
invariant-loop-done g l = IsOf l.cell l.pass × TakesCount (pass_view l.initial.pass) l._done (pass_view l.pass)
