use Rattle.shared_state.specs.Cells.{AreOf, HaveJust}
use Rattle.tests_server.proofs.shared.take_turns.Given as goal

-- the passes stay those of the cells, with the share that they had
abbrev pub invariant-turns : goal.invariant-turns
invariant-turns g l = record {
  cells : AreOf l.shared l.passes;
  units : HaveJust l.fn.units l.passes;
}
