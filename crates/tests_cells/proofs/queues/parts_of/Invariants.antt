use Rattle.std.proofs.Common.{◌≡◌, ◌+◌}
use Rattle.std.specs.List.{All}
use Rattle.conn_queue.specs.Queues.{IsOf, pass_view}
use Rattle.tests_cells.proofs.queues.parts_of.Given as goal

abbrev pub invariant-loop-number : goal.invariant-loop-number
invariant-loop-number l = record {
  queue : IsOf l.queue l.pass;
  units : (pass_view l.pass).units + l.number ≡ (pass_view l.initial.pass).units;
  parts : All (λ part. IsOf l.queue part.pass) l.parts.items;
}
