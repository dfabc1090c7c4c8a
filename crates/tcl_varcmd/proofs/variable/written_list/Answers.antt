use Rattle.std.proofs.Common.{ap}
use Rattle.tcl_frame.specs.Names.{named}
use Rattle.tcl_frame.specs.Frames.{found_in}
use Rattle.tcl_varcmd.specs.Errors.{refused, write_error}
use Rattle.tcl_varcmd.proofs.Faults.{writable_read}
use Rattle.tcl_varcmd.proofs.variable.written_list.Goals as goal

pub returns-in-WrittenList-clause-value : goal.returns-in-WrittenList-clause-value
unfolding write_error
returns-in-WrittenList-clause-value c =
    let found = found_in c.args.frames.now (named c.args.name.now) in
    (c.in-Ok.ensures.value, ap (refused c.args.name.now) (writable_read found c.in-Ok.ensures.refused))
