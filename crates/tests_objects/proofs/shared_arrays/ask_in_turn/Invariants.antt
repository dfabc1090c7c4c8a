use Rattle.nsv_shared.specs.Cells.{AreOf, HaveJust}
use Rattle.tests_objects.proofs.shared_arrays.ask_in_turn.Given as goal

-- the passes stay those of the cells, with the share that they had
abbrev pub invariant-loop-turn : goal.invariant-loop-turn
invariant-loop-turn g l = record {
  cells : AreOf l.nsv l.pass;
  units : HaveJust l.fn.units l.pass;
}
