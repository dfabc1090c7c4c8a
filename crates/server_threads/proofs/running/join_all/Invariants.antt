use Rattle.std.specs.List.{All}
use Rattle.std.specs.Vec.Iter.{into_iter_items}
use Rattle.conn_queue.specs.Queues.{IsOf}
use Rattle.server_threads.proofs.running.join_all.Given as goal

abbrev pub invariant-loop-part : goal.invariant-loop-part
invariant-loop-part g l = record {
  queue : IsOf l.queue l.pass;
  own : g.V.Staff.fits l.staff l.own;
  parts : All (λ part. IsOf l.queue part.pass × g.V.Staff.fits l.staff part.own) (into_iter_items l.part-iterator);
}
