use Rattle.turn_cell.specs.Cells.{IsOf}
use Rattle.tests_cells.proofs.counters.Part.count.Given as goal

abbrev pub invariant-loop-done : goal.invariant-loop-done
invariant-loop-done g l = IsOf l.cell l.self.pass
