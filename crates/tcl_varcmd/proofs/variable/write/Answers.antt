use Rattle.std.proofs.Common.{ap}
use Rattle.tcl_frame.specs.Frames.{written, write_fault}
use Rattle.tcl_varcmd.specs.Errors.{refused, write_error}
use Rattle.tcl_varcmd.proofs.Faults.{changes_refused}
use Rattle.tcl_varcmd.proofs.variable.write.Goals as goal

pub returns-in-Ok-clause-change : goal.returns-in-Ok-clause-change
unfolding write_error
returns-in-Ok-clause-change c = (ap (refused c.args.name.now) c.in-Ok.ensures.refused, c.in-Ok.ensures.ok)

pub returns-in-Err-clause-change : goal.returns-in-Err-clause-change
unfolding write_error
returns-in-Err-clause-change c =
    changes_refused (Unit {0}) c.args.name.now (write_fault c.args.frames.now c.args.name.now) c.in-Err.fault c.refusal.result (written c.args.frames.now c.args.name.now c.args.value) c.args.frames.now c.write.new.self c.in-Err.ensures.refused c.refusal.ensures c.in-Err.ensures.err
