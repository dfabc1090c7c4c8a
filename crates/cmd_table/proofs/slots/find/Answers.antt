use Rattle.std.proofs.Common.{◌∙◌, sym, ap}
use Rattle.cmd_table.proofs.Changes.{held, found}
use Rattle.cmd_table.proofs.slots.find.Goals as goal

pub returns-in_err-get : goal.returns-in_err-get
returns-in_err-get c = rw c.from_residual.ensures (sym (found c.args.name.now c.args.slots.now.entries c.requires ∙ ap held (sym c.in_err-get.ensures.value)))

pub returns : goal.returns
returns c = c.as_ref.ensures.value ∙ sym (found c.args.name.now c.args.slots.now.entries c.requires ∙ ap held (sym c.in_ok-get.ensures.value))
