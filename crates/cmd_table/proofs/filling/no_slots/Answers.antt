use Rattle.std.proofs.Common.{◌∙◌, ap, sym, subst}
use Rattle.cmd_table.specs.Slots.{present, AreFull}
use Rattle.cmd_table.proofs.Changes.{none_present}
use Rattle.cmd_table.proofs.Places.{none_full}
use Rattle.cmd_table.proofs.filling.no_slots.Goals as goal

pub returns-clause-empty : goal.returns-clause-empty
returns-clause-empty c = ap present c.new.ensures.empty ∙ none_present

pub returns-clause-ready : goal.returns-clause-ready
returns-clause-ready c = (c.new.ensures.ordered, subst AreFull (sym c.new.ensures.empty) none_full)
