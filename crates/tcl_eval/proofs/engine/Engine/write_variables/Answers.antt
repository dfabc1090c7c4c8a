use Rattle.std.proofs.Common.{Ok, Err, refl}
use Rattle.natives.specs.declared.fault.Fault.TheVariants as faults
use Rattle.tcl_eval.proofs.Bases.{variables_keep}
use Rattle.tcl_eval.proofs.engine.Engine.write_variables.Goals as goal

pub returns-in-Ok-clause-holds : goal.returns-in-Ok-clause-holds
returns-in-Ok-clause-holds g c =
    (refl, refl, variables_keep (Ok c.in-Ok.result) c.args.words.now c.var_command.new.frames c.args.self.now.frames c.in-Ok.ensures.came tt)

pub returns-in-Err-Error-clause-holds : goal.returns-in-Err-Error-clause-holds
returns-in-Err-Error-clause-holds g c =
    (refl, refl, variables_keep (Err (faults.Error c.in-Err-Error.message)) c.args.words.now c.var_command.new.frames c.args.self.now.frames (rw c.in-Err-Error.field-0-is at c.in-Err-Error.ensures.came) tt)
