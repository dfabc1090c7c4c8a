use Rattle.std.proofs.Common.{◌≡◌, ap, Option, true, false}
use Rattle.tcl_varcmd.specs.declared.command.Command.{Command}
use Rattle.tcl_varcmd.specs.Commands.{goes_on, begins_var_command}
use Rattle.tcl_varcmd.proofs.flow.var_command.Goals as goal

pub unreachable-requires : goal.unreachable-requires
unfolding begins_var_command
unreachable-requires c =
    let none : false ≡ begins_var_command c.args.words.now = ap (λ (o : Option Command). goes_on o c.args.words.now) c.in-None.ensures in
    let some : begins_var_command c.args.words.now ≡ true = c.requires in
    cc
