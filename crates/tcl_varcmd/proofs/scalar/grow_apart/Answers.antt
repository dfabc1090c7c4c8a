use Rattle.std.proofs.Common.{◌++◌, ◌∙◌, sym, refl, subst, Err}
use Rattle.tcl_frame.specs.Frames.{read_of, written}
use Rattle.txt_core.specs.ErrorTexts.{too_long}
use Rattle.tcl_varcmd.specs.Errors.{long_error, write_error}
use Rattle.tcl_varcmd.specs.Answers.{Answers, gives, unless}
use Rattle.tcl_varcmd.specs.Scalars.{stored}
use Rattle.tcl_varcmd.specs.Growing.{put_behind}
use Rattle.tcl_varcmd.proofs.Exits.{answers_said, answers_on}
use Rattle.tcl_varcmd.proofs.Growing.{too_many, few_enough}
use Rattle.tcl_varcmd.proofs.scalar.grow_apart.Goals as goal

pub returns-then-is_too_long_behind-clause-came : goal.returns-then-is_too_long_behind-clause-came
returns-then-is_too_long_behind-clause-came c =
    let stack = c.args.frames.now in
    let name = c.args.name.now in
    let old = read_of stack name in
    let whole = old ++ c.args.more.now in
    answers_on (write_error stack name) stack stack (stored stack name whole) (Err c.too_long.result) c.in_ok-front.ensures.0
    (answers_said (long_error whole) too_long stack stack (unless (write_error stack name) stack (gives whole (written stack name whole))) c.too_long.result
    (too_many c.in_ok-front.front old c.args.more.now c.in_ok-front.ensures.1 (sym c.is_too_long_behind.ensures ∙ c.if-is_too_long_behind.true))
    c.too_long.ensures refl)

pub returns-clause-came : goal.returns-clause-came
returns-clause-came c =
    let stack = c.args.frames.now in
    let name = c.args.name.now in
    let old = read_of stack name in
    let whole = old ++ c.args.more.now in
    answers_on (write_error stack name) stack c.append.new.frames (stored stack name whole) c.append.result c.in_ok-front.ensures.0
    (answers_on (long_error whole) stack c.append.new.frames (put_behind stack name c.args.more.now) c.append.result
    (few_enough c.in_ok-front.front old c.args.more.now c.in_ok-front.ensures.1 (sym c.is_too_long_behind.ensures ∙ c.if-is_too_long_behind.false))
    (subst (λ more. Answers (put_behind stack name more) c.append.result c.append.new.frames) c.bytes.ensures c.append.ensures.came))
