use Rattle.std.proofs.Common.{ap}
use Rattle.std.specs.Prelude.{vec_len}
use Rattle.std.specs.Vec.Iter.{into_iter_items, into_iter_len}
use Rattle.std.proofs.lemmas.List.Elements.{All-push, All-rest, All-same}
use Rattle.conn_queue.specs.Queues.{IsOf, pass_view}
use Rattle.server_threads.specs.declared.parts.Part.{Part}
use Rattle.server_threads.proofs.Loops.{first_is, still_few, units_left}
use Rattle.server_threads.proofs.running.parts_of.Goals as goal

pub loop-own-preserved-in-None-next : goal.loop-own-preserved-in-None-next
loop-own-preserved-in-None-next g c =
    let was = c.loop-own.invariant in
    let steps = c.in-Some.ensures.steps in
    let fits = first_is (g.V.Staff.fits c.args.staff.now) c.in-Some.own (into_iter_items c.next.new.self) (into_iter_items c.loop-own.own-iterator) steps.0 was.owns in
    record {
      queue = c.split.ensures.queue;
      units = units_left (pass_view c.loop-own.pass).units (pass_view c.split.new.pass).units (vec_len c.loop-own.parts) (vec_len c.push.new.self) (into_iter_len c.loop-own.own-iterator)
          (ap (λ v. v.units) c.split.ensures.left) was.units was.few c.in_ok-push.ensures.len;
      few = still_few (vec_len c.loop-own.parts) (vec_len c.push.new.self) (into_iter_len c.next.new.self) (into_iter_len c.loop-own.own-iterator)
          c.in_ok-push.ensures.len steps.1 was.few;
      owns = All-rest (g.V.Staff.fits c.args.staff.now) c.in-Some.own (into_iter_items c.next.new.self) (into_iter_items c.loop-own.own-iterator) steps.0 was.owns;
      parts =
          let P = λ (part : Part g.row.T.Denot g.row.W.Denot). IsOf c.args.queue.now part.pass × g.V.Staff.fits c.args.staff.now part.own in
          All-same P c.push.new.self.items _ c.in_ok-push.ensures.items (All-push P c.loop-own.parts.items _ was.parts (c.in_ok-split.ensures.right.0, fits));
    }

pub loop-own-preserved : goal.loop-own-preserved
loop-own-preserved g c =
    let was = c.loop-own.invariant in
    let steps = c.in-Some.ensures.steps in
    let fits = first_is (g.V.Staff.fits c.args.staff.now) c.in-Some.own (into_iter_items c.next.new.self) (into_iter_items c.loop-own.own-iterator) steps.0 was.owns in
    record {
      queue = c.split.ensures.queue;
      units = units_left (pass_view c.loop-own.pass).units (pass_view c.split.new.pass).units (vec_len c.loop-own.parts) (vec_len c.push.new.self) (into_iter_len c.loop-own.own-iterator)
          (ap (λ v. v.units) c.split.ensures.left) was.units was.few c.in_ok-push.ensures.len;
      few = still_few (vec_len c.loop-own.parts) (vec_len c.push.new.self) (into_iter_len c.next.new.self) (into_iter_len c.loop-own.own-iterator)
          c.in_ok-push.ensures.len steps.1 was.few;
      owns = All-rest (g.V.Staff.fits c.args.staff.now) c.in-Some.own (into_iter_items c.next.new.self) (into_iter_items c.loop-own.own-iterator) steps.0 was.owns;
      parts =
          let P = λ (part : Part g.row.T.Denot g.row.W.Denot). IsOf c.args.queue.now part.pass × g.V.Staff.fits c.args.staff.now part.own in
          All-same P c.push.new.self.items _ c.in_ok-push.ensures.items (All-push P c.loop-own.parts.items _ was.parts (c.in_ok-split.ensures.right.0, fits));
    }
