use Rattle.std.proofs.Common.{◌++◌, ◌∙◌, sym, Ok, ap}
use Rattle.txt_core.specs.ErrorTexts.{too_long}
use Rattle.tcl_varcmd.specs.Errors.{long_error}
use Rattle.tcl_varcmd.proofs.Growing.{too_many, few_enough}
use Rattle.tcl_varcmd.proofs.InPlace.{reply_said, reply_on}
use Rattle.tcl_varcmd.proofs.scalar.grow_at.Goals as goal

pub returns-then-is_too_long_behind-clause-came : goal.returns-then-is_too_long_behind-clause-came
returns-then-is_too_long_behind-clause-came c =
    let old = c.args.place.now in
    let whole = old ++ c.args.more.now in
    reply_said (long_error whole) too_long (Ok whole) c.too_long.result
    (too_many c.len.result old c.args.more.now c.len.ensures (sym c.is_too_long_behind.ensures ∙ c.if-is_too_long_behind.true))
    c.too_long.ensures

pub returns-clause-came : goal.returns-clause-came
returns-clause-came c =
    let old = c.args.place.now in
    let whole = old ++ c.args.more.now in
    reply_on (long_error whole) (Ok whole) (Ok c.in_ok-value.value)
    (few_enough c.len.result old c.args.more.now c.len.ensures (sym c.is_too_long_behind.ensures ∙ c.if-is_too_long_behind.false))
    (c.in_ok-value.ensures.value ∙ ap (λ m. old ++ m) c.bytes.ensures)
