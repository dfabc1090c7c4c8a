use Rattle.tests_server.proofs.shared.take_turns.Goals as goal

pub turns-preserved : goal.turns-preserved
turns-preserved g c = record {
  cells = c.turn-numbers.ensures.cells;
  units = c.turn-numbers.ensures.units c.args.units c.turns.invariant.units;
}
