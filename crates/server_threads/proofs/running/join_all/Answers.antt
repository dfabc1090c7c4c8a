use Rattle.std.specs.Vec.Iter.{into_iter_items}
use Rattle.std.proofs.lemmas.List.Elements.{All-rest}
use Rattle.conn_queue.specs.Queues.{IsOf}
use Rattle.server_threads.specs.declared.parts.Part.{Part}
use Rattle.server_threads.proofs.running.join_all.Goals as goal

pub loop-part-preserved : goal.loop-part-preserved
loop-part-preserved g c = record {
  queue = c.join.ensures.queue;
  own = c.join-in-loop-part.ensures;
  parts = All-rest (λ (part : Part g.row.T.Denot g.row.W.Denot). IsOf c.args.queue.now part.pass × g.V.Staff.fits c.args.staff.now part.own)
      c.in-Some.part (into_iter_items c.next.new.self) (into_iter_items c.loop-part.part-iterator) c.in-Some.ensures.steps.0 c.loop-part.invariant.parts;
}
