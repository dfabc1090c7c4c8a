use Rattle.turn_cell.proofs.Saying.{rule_says}
use Rattle.turn_cell.proofs.laws.rule_says.Goals as goal

pub returns : goal.returns
returns g c = let m = g.met.O.Obj in rule_says g.O.Obj.allowed g.O.Obj.reaches g.O.Obj.step m.reaches_self m.reaches_later m.step_reaches
