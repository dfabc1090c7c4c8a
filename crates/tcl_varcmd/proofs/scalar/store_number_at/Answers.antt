use Rattle.std.proofs.Common.{◌∙◌, refl, sym, Ok}
use Rattle.txt_core.specs.ErrorTexts.{too_long}
use Rattle.tcl_varcmd.specs.Errors.{long_error}
use Rattle.tcl_varcmd.proofs.Counts.{is_too_long, is_short}
use Rattle.tcl_varcmd.proofs.InPlace.{reply_said, reply_on}
use Rattle.tcl_varcmd.proofs.scalar.store_number_at.Goals as goal

pub returns-then-is_too_long-clause-came : goal.returns-then-is_too_long-clause-came
returns-then-is_too_long-clause-came c =
    reply_said (long_error c.args.number) too_long (Ok c.args.number) c.too_long.result
    (is_too_long c.args.number (sym c.is_too_long.ensures ∙ c.if-is_too_long.true)) c.too_long.ensures

pub returns-clause-came : goal.returns-clause-came
returns-clause-came c =
    reply_on (long_error c.args.number) (Ok c.args.number) (Ok c.args.number)
    (is_short c.args.number (sym c.is_too_long.ensures ∙ c.if-is_too_long.false)) refl
