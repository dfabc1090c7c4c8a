use Rattle.std.proofs.Common.{◌≡◌, ◌+◌, ◌≤◌}
use Rattle.std.specs.Prelude.{vec_len}
use Rattle.std.specs.List.{All}
use Rattle.std.specs.Vec.Iter.{into_iter_items, into_iter_len}
use Rattle.conn_queue.specs.Queues.{IsOf, pass_view}
use Rattle.txt_core.specs.Shares.{WHOLE}
use Rattle.server_threads.specs.Limits.{most_parts}
use Rattle.server_threads.proofs.running.parts_of.Given as goal

abbrev pub invariant-loop-own : goal.invariant-loop-own
invariant-loop-own g l = record {
  queue : IsOf l.queue l.pass;
  units : (pass_view l.pass).units + vec_len l.parts ≡ WHOLE;
  few : vec_len l.parts + into_iter_len l.own-iterator ≤ most_parts;
  owns : All (g.V.Staff.fits l.staff) (into_iter_items l.own-iterator);
  parts : All (λ part. IsOf l.queue part.pass × g.V.Staff.fits l.staff part.own) l.parts.items;
}
