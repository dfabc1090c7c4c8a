use Rattle.std.proofs.Common.{◌∙◌, sym, refl, ap, Ok, Err}
use Rattle.std.proofs.lemmas.Result.{err_from_is_err_and}
use Rattle.tcl_frame.specs.Frames.{written}
use Rattle.txt_core.specs.ErrorTexts.{too_long}
use Rattle.tcl_varcmd.specs.Errors.{long_error, write_error}
use Rattle.tcl_varcmd.specs.Answers.{gives, unless}
use Rattle.tcl_varcmd.proofs.Exits.{answers_said, answers_on, answers_unchanged}
use Rattle.tcl_varcmd.proofs.Counts.{is_too_long, is_short}
use Rattle.tcl_varcmd.proofs.scalar.store.Goals as goal

pub returns-then-is_too_long-clause-came : goal.returns-then-is_too_long-clause-came
returns-then-is_too_long-clause-came c =
    let stack = c.args.frames.now in
    answers_said (long_error c.args.value) too_long stack stack (unless (write_error stack c.args.name.now) stack (gives c.args.value (written stack c.args.name.now c.args.value))) c.too_long.result
    (is_too_long c.args.value (sym c.is_too_long.ensures ∙ c.if-is_too_long.true)) c.too_long.ensures refl

pub returns-in_err-write-clause-came : goal.returns-in_err-write-clause-came
returns-in_err-write-clause-came c =
    let stack = c.args.frames.now in
    let p = err_from_is_err_and c.from_residual-in_err-write.result c.from_residual-in_err-write.ensures.1 in
    rw (p.1, p.2) (answers_on (long_error c.args.value) stack c.write.new.frames (unless (write_error stack c.args.name.now) stack (gives c.args.value (written stack c.args.name.now c.args.value))) (Err c.in_err-write.field-0.0)
    (is_short c.args.value (sym c.is_too_long.ensures ∙ c.if-is_too_long.false))
    (answers_unchanged (write_error stack c.args.name.now) stack (written stack c.args.name.now c.in_ok-shared.shared) c.write.new.frames (gives c.args.value (written stack c.args.name.now c.args.value)) c.in_err-write.field-0.0 c.in_err-write.ensures.change))

pub returns-clause-came : goal.returns-clause-came
returns-clause-came c =
    let stack = c.args.frames.now in
    answers_on (long_error c.args.value) stack c.write.new.frames (unless (write_error stack c.args.name.now) stack (gives c.args.value (written stack c.args.name.now c.args.value))) (Ok c.share.new.self)
    (is_short c.args.value (sym c.is_too_long.ensures ∙ c.if-is_too_long.false))
    (answers_on (write_error stack c.args.name.now) stack c.write.new.frames (gives c.args.value (written stack c.args.name.now c.args.value)) (Ok c.share.new.self)
    c.in_ok-write.ensures.change.0 (c.share.ensures.kept, c.in_ok-write.ensures.change.1 ∙ ap (written stack c.args.name.now) c.in_ok-shared.ensures.value))
