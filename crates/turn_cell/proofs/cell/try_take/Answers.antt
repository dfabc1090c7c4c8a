use Rattle.turn_cell.proofs.Keeping.{takes, learns_there}
use Rattle.turn_cell.proofs.cell.try_take.Goals as goal

pub pop_as-requires-clause-rule : goal.pop_as-requires-clause-rule
pop_as-requires-clause-rule g c =
    let m = g.met.O.Obj in
    let h = c.requires.free in
    (takes g.O.Obj.allowed g.O.Obj.reaches g.O.Obj.step m.reaches_self m.reaches_later m.step_reaches _ _ h.0 h.1, learns_there g.O.Obj.allowed g.O.Obj.step _ _ h.1)
