use Rattle.std.proofs.Common.{◌≡◌, ◌+◌}
use Rattle.std.specs.List.{All}
use Rattle.turn_cell.specs.Cells.{IsOf, pass_view}
use Rattle.tests_cells.proofs.counters.parts_of.Given as goal

abbrev pub invariant-loop-number : goal.invariant-loop-number
invariant-loop-number l = record {
  cell : IsOf l.cell l.pass;
  units : (pass_view l.pass).units + l._number ≡ (pass_view l.initial.pass).units;
  parts : All (λ part. IsOf l.cell part.pass) l.parts.items;
}
