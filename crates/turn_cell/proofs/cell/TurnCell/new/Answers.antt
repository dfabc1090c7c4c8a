use Rattle.std.proofs.Common.{refl, sym, subst}
use Rattle.turn_cell.proofs.Keeping.{begins, opens}
use Rattle.turn_cell.proofs.cell.TurnCell.new.Goals as goal

pub ruled-requires-clause-rule : goal.ruled-requires-clause-rule
ruled-requires-clause-rule g c = begins g.O.Obj.allowed g.O.Obj.step g.O.Obj.sample g.met.O.Obj.sample_allowed

pub try_push_as-requires-clause-rule : goal.try_push_as-requires-clause-rule
try_push_as-requires-clause-rule g c = opens g.O.Obj.allowed g.O.Obj.step _ _ _ _ g.O.Obj.sample c.in_ok-queue.ensures.3 refl (subst g.O.Obj.allowed (sym c.in_ok-new.ensures.ok) c.shown.ensures)
