use Rattle.std.proofs.Common.{ap}
use Rattle.tcl_frame.specs.Frames.{removed, remove_fault}
use Rattle.tcl_varcmd.specs.Errors.{refused, remove_error}
use Rattle.tcl_varcmd.proofs.Faults.{changes_refused}
use Rattle.tcl_varcmd.proofs.variable.remove.Goals as goal

pub returns-in-Ok-clause-change : goal.returns-in-Ok-clause-change
unfolding remove_error
returns-in-Ok-clause-change c = (ap (refused c.args.name.now) c.in-Ok.ensures.refused, c.in-Ok.ensures.ok)

pub returns-in-Err-clause-change : goal.returns-in-Err-clause-change
unfolding remove_error
returns-in-Err-clause-change c =
    changes_refused (Unit {0}) c.args.name.now (remove_fault c.args.frames.now c.args.name.now) c.in-Err.fault c.refusal.result (removed c.args.frames.now c.args.name.now) c.args.frames.now c.remove.new.self c.in-Err.ensures.refused c.refusal.ensures c.in-Err.ensures.err
