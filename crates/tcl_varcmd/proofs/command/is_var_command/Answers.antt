use Rattle.std.proofs.Common.{◌∙◌, ap, Option}
use Rattle.tcl_varcmd.specs.declared.command.Command.{Command}
use Rattle.tcl_varcmd.specs.Commands.{goes_on, begins_var_command}
use Rattle.tcl_varcmd.proofs.command.is_var_command.Goals as goal

pub returns-in-Some : goal.returns-in-Some
unfolding begins_var_command
returns-in-Some c = c.goes_on.ensures ∙ ap (λ (o : Option Command). goes_on o c.args.words.now) c.in-Some.ensures

pub returns-in-None : goal.returns-in-None
unfolding begins_var_command
returns-in-None c = ap (λ (o : Option Command). goes_on o c.args.words.now) c.in-None.ensures
