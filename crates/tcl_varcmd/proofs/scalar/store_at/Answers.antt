use Rattle.std.proofs.Common.{◌∙◌, sym, Ok}
use Rattle.txt_core.specs.ErrorTexts.{too_long}
use Rattle.tcl_varcmd.specs.Errors.{long_error}
use Rattle.tcl_varcmd.proofs.Counts.{is_too_long, is_short}
use Rattle.tcl_varcmd.proofs.InPlace.{reply_said, reply_on}
use Rattle.tcl_varcmd.proofs.scalar.store_at.Goals as goal

pub returns-then-is_too_long-clause-came : goal.returns-then-is_too_long-clause-came
returns-then-is_too_long-clause-came c =
    reply_said (long_error c.args.value) too_long (Ok c.args.value) c.too_long.result
    (is_too_long c.args.value (sym c.is_too_long.ensures ∙ c.if-is_too_long.true)) c.too_long.ensures

pub returns-clause-came : goal.returns-clause-came
returns-clause-came c =
    reply_on (long_error c.args.value) (Ok c.args.value) (Ok c.share.new.self)
    (is_short c.args.value (sym c.is_too_long.ensures ∙ c.if-is_too_long.false)) c.share.ensures.kept
