use Rattle.conn_queue.specs.Queues.{IsOf}
use Rattle.tests_cells.proofs.queues.Part.take_numbers.Given as goal

abbrev pub invariant-loop : goal.invariant-loop
invariant-loop g l = IsOf l.queue l.self.pass
