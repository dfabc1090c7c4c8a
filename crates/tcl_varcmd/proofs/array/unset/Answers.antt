use Rattle.std.proofs.Common.{◌∙◌, sym}
use Rattle.std.proofs.lemmas.Result.{err_from_is_err_and}
use Rattle.tcl_frame.specs.Frames.{removed}
use Rattle.tcl_varcmd.specs.Errors.{remove_error}
use Rattle.tcl_varcmd.specs.Arrays.{unset_array}
use Rattle.tcl_varcmd.proofs.Making.{removable, no_error}
use Rattle.tcl_varcmd.proofs.array.unset.Goals as goal

pub returns-in_err-remove-clause-came : goal.returns-in_err-remove-clause-came
returns-in_err-remove-clause-came c =
    let stack = c.args.frames.now in let name = c.args.name.now in
    let p = err_from_is_err_and c.from_residual.result c.from_residual.ensures.1 in
    rw (p.1, p.2) (no_error (remove_error stack name) (removed stack name) stack c.remove.new.frames (unset_array stack name) c.in_err-remove.field-0.0 (removable stack name (sym c.is_array.ensures ∙ c.if-is_array.true)) c.in_err-remove.ensures.change)
