use Rattle.crossbeam_queue.specs.Passes.{view}
use Rattle.turn_cell.proofs.Keeping.{takes, learns_there}
use Rattle.turn_cell.proofs.cell.TurnCell.close.Goals as goal

pub pop_as-requires-clause-rule : goal.pop_as-requires-clause-rule
pop_as-requires-clause-rule g c =
    let m = g.met.O.Obj in
    let v = view c.args.pass.seat in (
      takes g.O.Obj.allowed g.O.Obj.reaches g.O.Obj.step m.reaches_self m.reaches_later m.step_reaches c.args.pass.seat.id v c.args.pass.shares c.args.pass.free,
      learns_there g.O.Obj.allowed g.O.Obj.step c.args.pass.seat.id v c.args.pass.free,
    )
