use Rattle.std.proofs.Common.{◌≡◌, ◌∙◌, refl, sym, ap, arith}
use Rattle.std.specs.Prelude.{[], None, Some}
use Rattle.natives.specs.Names.{names_of}
use Rattle.http_req.specs.Readings.{left_of}
use Rattle.worker.specs.Lists.{listed}
use Rattle.worker.specs.Sessions.{at}
use Rattle.worker.proofs.Ending.{causes_on}
use Rattle.worker.proofs.Stepping.{none_of, goes_on, goes_few, stops, are_few}
use Rattle.worker.proofs.session.run_session.Goals as goal

pub loop-place-preserved : goal.loop-place-preserved
loop-place-preserved g c =
    let inv = c.loop-place.invariant in
    let none = none_of c.serve_next-end.result c.in_default.not-Some in
    let steps = rw (none, inv.held) at c.serve_next-end.ensures.steps in
    let few = goes_few _ _ _ _ _ (g.S.Source.rest c.serve_next-end.new.source) _ _ _ _ steps in
    record {
      cells = c.serve_next-end.ensures.cells;
      clean = c.serve_next-end.ensures.clean;
      number = c.serve_next-end.ensures.number ∙ inv.number;
      counts = c.serve_next-end.ensures.counts;
      serves = goes_on _ _ _ _ _ _ (g.S.Source.rest c.serve_next-end.new.source) _ _ _ _ _ inv.serves steps;
      place = let p = inv.place in let n = few.0 in omega (arith, p, n);
      few = few.1;
      source = let a = inv.source in let b = (rw none at c.serve_next-end.ensures.causes).0 in omega (arith, a, b);
      sink = let a = inv.sink in let b = (rw none at c.serve_next-end.ensures.causes).1 in omega (arith, a, b);
      held = c.serve_next-end.ensures.held ∙ inv.held;
    }

pub returns-in-Some-clause-ran : goal.returns-in-Some-clause-ran
returns-in-Some-clause-ran g c =
    let inv = c.loop-place.invariant in
    stops _ _ _ _ _ (left_of c.serve_next-end.new.carry (g.S.Source.rest c.serve_next-end.new.source)) _ _ _ _ _ _ c.in-Some.end inv.serves (rw (c.in-Some.is, inv.held) at c.serve_next-end.ensures.steps)

pub returns-in-Some-clause-causes : goal.returns-in-Some-clause-causes
returns-in-Some-clause-causes g c =
    let inv = c.loop-place.invariant in
    causes_on c.in-Some.end (g.S.Source.faults c.args.source.now) (g.S.Source.faults c.loop-place.source) (g.S.Source.faults c.serve_next-end.new.source) (g.K.Sink.faults c.args.sink.now) (g.K.Sink.faults c.loop-place.sink) (g.K.Sink.faults c.serve_next-end.new.sink) inv.source inv.sink (rw c.in-Some.is at c.serve_next-end.ensures.causes)

pub returns-in-Some-clause-few : goal.returns-in-Some-clause-few
returns-in-Some-clause-few g c =
    let inv = c.loop-place.invariant in
    are_few _ _ _ _ (left_of c.serve_next-end.new.carry (g.S.Source.rest c.serve_next-end.new.source)) _ _ _ _ _ c.in-Some.end inv.few (rw c.in-Some.is at c.serve_next-end.ensures.steps)
