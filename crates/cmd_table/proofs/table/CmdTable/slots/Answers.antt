use Rattle.std.proofs.Common.{◌∙◌}
use Rattle.cmd_table.proofs.Places.{slots_counted}
use Rattle.cmd_table.proofs.table.CmdTable.slots.Goals as goal

pub returns : goal.returns
returns c = c.len.ensures.len ∙ slots_counted c.self.inside.journal.items c.self.inside.slots.entries c.args.self.now c.self.invariant.0 c.self.invariant.1 c.self.view_is
