use Rattle.std.proofs.Common.{◌≡◌, ◌≤◌, ◌+◌, length, take}
use Rattle.std.specs.Prelude.{None}
use Rattle.natives.specs.Names.{names_of}
use Rattle.shared_state.specs.Cells.{Serve, KeepUnits}
use Rattle.worker.specs.Lists.{listed, spare}
use Rattle.worker.specs.Clean.{IsClean}
use Rattle.worker.specs.Sessions.{at}
use Rattle.worker.specs.Scripts.{RunsAll}
use Rattle.worker.proofs.due.run_all.Given as goal

abbrev pub invariant-scripts : goal.invariant-scripts
invariant-scripts g l = record {
  cells : Serve (names_of l.natives) l.shared l.passes;
  units : KeepUnits l.fn.passes l.passes;
  number : l.worker.number ≡ l.fn.worker.number;
  clean : IsClean (names_of l.natives) l.passes l.worker;
  runs : RunsAll (names_of l.natives) (g.P.Pages.held l.fn.pages) (take l.due-index l.due-items) (at l.fn.passes l.fn.worker (g.C.Clock.held l.fn.clock) None (g.P.Pages.faults l.fn.pages) l.fn.steps) (listed l.ran) (at l.passes l.worker (g.C.Clock.held l.clock) None (g.P.Pages.faults l.pages) l.steps);
  room : length l.due-items ≤ l.due-index + spare l.ran;
  held : g.P.Pages.held l.pages ≡ g.P.Pages.held l.fn.pages;
}
