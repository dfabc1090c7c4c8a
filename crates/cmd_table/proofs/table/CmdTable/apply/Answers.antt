use Rattle.std.proofs.Common.{◌∙◌, ◌+◌, ap}
use Rattle.std.specs.Prelude.{if◌then◌else◌}
use Rattle.cmd_table.specs.Commands.{writes}
use Rattle.cmd_table.proofs.Applying.{fits_where}
use Rattle.cmd_table.proofs.table.CmdTable.apply.Goals as goal

pub returns-clause-steps : goal.returns-clause-steps
returns-clause-steps g c =
    c.in_ok-try_apply.ensures.steps
    ∙ ap (λ b. c.args.steps.now + (if b then writes c.args.def.now else 0)) ((fits_where c.args.self.now.table c.args.def.now).1 c.requires)
