use Rattle.std.proofs.Common.{ap}
use Rattle.tcl_frame.specs.Frames.{linked, link_fault}
use Rattle.tcl_varcmd.specs.Errors.{refused}
use Rattle.tcl_varcmd.proofs.Faults.{changes_refused}
use Rattle.tcl_varcmd.proofs.variable.link.Goals as goal

pub returns-in-Ok-clause-change : goal.returns-in-Ok-clause-change
returns-in-Ok-clause-change c = (ap (refused c.args.name.now) c.in-Ok.ensures.refused, c.in-Ok.ensures.ok)

pub returns-in-Err-clause-change : goal.returns-in-Err-clause-change
returns-in-Err-clause-change c =
    changes_refused (Unit {0}) c.args.name.now (link_fault c.args.frames.now c.args.name.now) c.in-Err.fault c.refusal.result (linked c.args.frames.now c.args.name.now) c.args.frames.now c.link.new.self c.in-Err.ensures.refused c.refusal.ensures c.in-Err.ensures.err
