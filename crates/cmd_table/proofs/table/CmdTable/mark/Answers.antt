use Rattle.std.proofs.Common.{sym, ap, ◌∙◌}
use Rattle.cmd_table.specs.Table.{mark_of}
use Rattle.cmd_table.proofs.Taking.{past_length}
use Rattle.cmd_table.proofs.table.CmdTable.mark.Goals as goal

pub returns : goal.returns
returns c = c.len.ensures ∙ c.self.inside.journal.ok.0 ∙ sym (past_length c.self.inside.journal.items c.self.inside.slots.entries) ∙ ap mark_of c.self.view_is
