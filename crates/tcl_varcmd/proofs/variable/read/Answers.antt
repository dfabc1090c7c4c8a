use Rattle.std.proofs.Common.{◌≡◌, ap, List, ℕ}
use Rattle.tcl_frame.specs.Frames.{read_of, read_fault}
use Rattle.tcl_varcmd.specs.Errors.{refused, read_error}
use Rattle.tcl_varcmd.proofs.Faults.{tried_refused}
use Rattle.tcl_varcmd.proofs.variable.read.Goals as goal

pub returns-in-Ok : goal.returns-in-Ok
unfolding read_error
returns-in-Ok c = (ap (refused c.args.name.now) c.in-Ok.ensures.refused, c.in-Ok.ensures.value)

pub returns-in-Err : goal.returns-in-Err
unfolding read_error
returns-in-Err c =
    tried_refused (List ℕ) (List ℕ) (λ value. value ≡ read_of c.args.frames.now c.args.name.now) c.args.name.now (read_fault c.args.frames.now c.args.name.now) c.in-Err.fault c.refusal.result c.in-Err.ensures.refused c.refusal.ensures
