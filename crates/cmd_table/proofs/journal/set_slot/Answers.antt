use Rattle.std.proofs.Common.{◌∙◌, sym, ap, Option, List, ℕ}
use Rattle.std.specs.BTreeMap.{BTreeMap, is_at}
use Rattle.txt_core.specs.Order.{text_cmp}
use Rattle.cmd_table.specs.declared.command.Cmd.{Cmd}
use Rattle.cmd_table.proofs.Changes.{no_slot}
use Rattle.cmd_table.proofs.journal.set_slot.Goals as goal

pub returns-in-Some-clause-set : goal.returns-in-Some-clause-set
returns-in-Some-clause-set c = (c.get_mut.follows.holds c.args.cmd).0

pub returns-in_default-clause-set : goal.returns-in_default-clause-set
returns-in_default-clause-set c =
    ap (λ (m : BTreeMap (List ℕ) (Option Cmd)). m.entries) c.get_mut.follows.holds-at-none
    ∙ sym (no_slot (is_at (text_cmp c.args.name.now)) c.args.cmd c.args.slots.now.entries (sym c.in_default.ensures.value))
