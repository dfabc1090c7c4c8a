use Rattle.std.proofs.Common.{ap}
use Rattle.tcl_frame.specs.Frames.{pairs_written, array_fault}
use Rattle.tcl_varcmd.specs.Errors.{refused, array_error}
use Rattle.tcl_varcmd.proofs.Faults.{changes_refused}
use Rattle.tcl_varcmd.proofs.variable.write_array.Goals as goal

pub returns-in-Ok-clause-change : goal.returns-in-Ok-clause-change
unfolding array_error
returns-in-Ok-clause-change c = (ap (refused c.args.name.now) c.in-Ok.ensures.refused, c.in-Ok.ensures.ok)

pub returns-in-Err-clause-change : goal.returns-in-Err-clause-change
unfolding array_error
returns-in-Err-clause-change c =
    changes_refused (Unit {0}) c.args.name.now (array_fault c.args.frames.now c.args.name.now) c.in-Err.fault c.refusal.result (pairs_written c.args.frames.now c.args.name.now c.args.pairs.now) c.args.frames.now c.write_array.new.self c.in-Err.ensures.refused c.refusal.ensures c.in-Err.ensures.err
