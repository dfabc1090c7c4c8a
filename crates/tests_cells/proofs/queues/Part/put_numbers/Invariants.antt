use Rattle.conn_queue.specs.Queues.{IsOf}
use Rattle.tests_cells.proofs.queues.Part.put_numbers.Given as goal

abbrev pub invariant-loop-number : goal.invariant-loop-number
invariant-loop-number g l = IsOf l.queue l.self.pass
