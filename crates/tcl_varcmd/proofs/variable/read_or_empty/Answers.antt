use Rattle.std.proofs.Common.{ap, List, ℕ}
use Rattle.tcl_frame.specs.Names.{named}
use Rattle.tcl_frame.specs.Frames.{found_in}
use Rattle.tcl_varcmd.specs.Errors.{refused, write_error}
use Rattle.tcl_varcmd.proofs.Faults.{writable_read, or_empty_read}
use Rattle.tcl_varcmd.proofs.variable.read_or_empty.Goals as goal

pub returns-in-Ok : goal.returns-in-Ok
unfolding write_error
returns-in-Ok c =
    let found = found_in c.args.frames.now (named c.args.name.now) in
    (ap (refused c.args.name.now) (writable_read found c.in-Ok.ensures.refused), c.in-Ok.ensures.value)

pub returns-in-Err : goal.returns-in-Err
unfolding write_error
returns-in-Err c =
    let found = found_in c.args.frames.now (named c.args.name.now) in
    or_empty_read (List ℕ) c.args.name.now found c.in-Err.fault c.or_empty.result c.in-Err.ensures.refused c.or_empty.ensures
