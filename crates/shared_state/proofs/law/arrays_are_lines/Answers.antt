use Rattle.shared_state.proofs.Lines.{histories_are_lines, neighbours_are_lines}
use Rattle.shared_state.proofs.law.arrays_are_lines.Goals as goal

pub returns-clause-histories : goal.returns-clause-histories
returns-clause-histories c = histories_are_lines

pub returns-clause-neighbours : goal.returns-clause-neighbours
returns-clause-neighbours c = neighbours_are_lines
