use Rattle.conn_queue.specs.Queues.{IsOf}
use Rattle.server_threads.proofs.staff.serve_each.Given as goal

abbrev pub invariant-loop : goal.invariant-loop
invariant-loop g l = record {
  queue : IsOf l.queue l.pass;
  own : g.V.Serve.belongs l.staff l.worker l.own;
}
