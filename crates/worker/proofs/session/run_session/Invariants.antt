use Rattle.std.proofs.Common.{◌≡◌, ◌<◌, ◌≤◌, ℕ, [], length}
use Rattle.std.specs.Prelude.{min}
use Rattle.natives.specs.Names.{names_of}
use Rattle.http_req.specs.Readings.{left_of}
use Rattle.shared_state.specs.Cells.{Serve}
use Rattle.worker.specs.Lists.{listed}
use Rattle.worker.specs.Clean.{IsClean}
use Rattle.worker.specs.Sessions.{at, answered_by, ServesAll}
use Rattle.worker.proofs.session.run_session.Given as goal

abbrev pub invariant-loop-place : goal.invariant-loop-place
invariant-loop-place g l = record {
  cells : Serve (names_of l.natives) l.shared l.passes;
  clean : IsClean (names_of l.natives) l.passes l.worker;
  number : l.worker.number ≡ l.fn.worker.number;
  counts : l.answered ≡ min (answered_by (listed l.served)) 18446744073709551615;
  serves : ServesAll (names_of l.natives) (g.P.Pages.held l.fn.pages) l.peer (left_of [] (g.S.Source.rest l.fn.source)) 0 0 (at l.fn.passes l.fn.worker (g.C.Clock.held l.fn.clock) (g.K.Sink.taken l.fn.sink) (g.P.Pages.faults l.fn.pages) l.fn.steps) (listed l.served) (left_of l.carry (g.S.Source.rest l.source)) (at l.passes l.worker (g.C.Clock.held l.clock) (g.K.Sink.taken l.sink) (g.P.Pages.faults l.pages) l.steps);
  place : length (listed l.served) ≡ l._place;
  few : length (listed l.served) < 100;
  source : g.S.Source.faults l.fn.source ≤ g.S.Source.faults l.source;
  sink : g.K.Sink.faults l.fn.sink ≤ g.K.Sink.faults l.sink;
  held : g.P.Pages.held l.pages ≡ g.P.Pages.held l.fn.pages;
}
