use Rattle.turn_cell.proofs.Keeping.{puts, learns_empty}
use Rattle.turn_cell.proofs.cell.put.Goals as goal

pub push_as-requires-clause-rule : goal.push_as-requires-clause-rule
push_as-requires-clause-rule g c = let h = c.requires.held in (
  puts g.O.Obj.allowed g.O.Obj.step _ _ _ _ c.args.place c.args.before.value c.args.call.value c.args.reply.now g.K.Said.said h.0 h.1 c.requires.said c.one_more.ensures c.requires.legal.0 c.requires.legal.1,
  learns_empty g.O.Obj.allowed g.O.Obj.step _ _ c.args.place c.args.before.value h.1,
)
