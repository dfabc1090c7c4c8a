use Rattle.turn_cell.proofs.Keeping.{forks}
use Rattle.turn_cell.proofs.cell.TurnCell.part.Goals as goal

pub another-seat-requires-clause-rule : goal.another-seat-requires-clause-rule
another-seat-requires-clause-rule g c = forks g.O.Obj.allowed g.O.Obj.step _ _ c.requires.units c.args.pass.now.free
