use Rattle.std.proofs.Common.{◌∙◌, ap}
use Rattle.cmd_table.specs.Slots.{present}
use Rattle.cmd_table.proofs.Changes.{put_in}
use Rattle.cmd_table.proofs.Places.{still_full}
use Rattle.cmd_table.proofs.filling.put_slot.Goals as goal

pub returns-clause-table : goal.returns-clause-table
returns-clause-table c = ap present c.in_ok-insert.ensures.entries ∙ put_in c.args.name c.args.cmd c.args.slots.now.entries c.requires.0

pub returns-clause-ready : goal.returns-clause-ready
returns-clause-ready c =
    (c.insert.ensures.ordered, still_full c.args.name c.args.cmd c.args.slots.now.entries c.insert.new.self.entries c.in_ok-insert.ensures.entries c.requires.0 c.insert.ensures.ordered c.requires.1)
