use Rattle.std.proofs.Common.{sym, subst}
use Rattle.turn_cell.specs.Steps.{IsInOrder}
use Rattle.turn_cell.proofs.Keeping.{merges, learns_order}
use Rattle.turn_cell.proofs.cell.TurnCell.join.Goals as goal

pub absorb-requires-clause-rule : goal.absorb-requires-clause-rule
absorb-requires-clause-rule g c = merges g.O.Obj.allowed g.O.Obj.step _ _ _ _ g.O.Obj.sample c.args.pass.now.shares c.args.pass.now.free c.args.other.shares c.args.other.free

pub learn_as-requires-clause-rule : goal.learn_as-requires-clause-rule
learn_as-requires-clause-rule g c = learns_order g.O.Obj.allowed g.O.Obj.step _ _

pub returns-clause-order : goal.returns-clause-order
returns-clause-order g c = subst IsInOrder (sym c.learn_as.ensures.queue.1) c.learn_as.ensures.rule.1
