use Rattle.tests_objects.proofs.shared_arrays.ask_in_turn.Goals as goal

pub loop-turn-preserved : goal.loop-turn-preserved
loop-turn-preserved g c = record {
  cells = c.ask-number.ensures.cells;
  units = c.ask-number.ensures.units c.args.units c.loop-turn.invariant.units;
}
