use Rattle.cmd_table.specs.Slots.{present}
use Rattle.cmd_table.proofs.table.CmdTable.change.Goals as goal

pub invariant_of-self : goal.invariant_of-self
invariant_of-self c = (
  c.change.ensures.ordered,
  c.change.ensures.placed,
  c.forget.ensures (present c.self.inside.slots.entries) (present c.change.new.slots.entries) c.change.ensures.others c.self.invariant.2,
)
