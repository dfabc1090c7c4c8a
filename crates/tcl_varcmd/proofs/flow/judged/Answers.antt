use Rattle.std.proofs.Common.{◌≡◌, ◌∙◌, sym, Some}
use Rattle.tcl_varcmd.specs.Commands.{command_came}
use Rattle.tcl_varcmd.proofs.Judging.{bounded_long, bounded_short, long_kept, kept_at, one_keeps}
use Rattle.tcl_varcmd.proofs.flow.judged.Goals as goal

pub returns-then-has_long_text-clause-came : goal.returns-then-has_long_text-clause-came
returns-then-has_long_text-clause-came c =
    bounded_long (command_came c.args.frames.now (Some c.args.command) c.args.words.now) c.answer-came.result c.too_long.result c.answer-came.new.frames
    c.answer-came.ensures.came (sym c.has_long_text.ensures ∙ c.if-has_long_text.true) c.too_long.ensures

pub returns-then-has_long_text-clause-kept : goal.returns-then-has_long_text-clause-kept
returns-then-has_long_text-clause-kept c =
    let stack = c.args.frames.now in
    kept_at c.too_long.result (c.answer-came.new.frames ≡ stack)
    (long_kept stack c.answer-came.new.frames (command_came stack (Some c.args.command) c.args.words.now) c.answer-came.result
    (one_keeps stack c.args.command c.args.words.now c.requires) c.answer-came.ensures.came (sym c.has_long_text.ensures ∙ c.if-has_long_text.true))

pub returns-clause-came : goal.returns-clause-came
returns-clause-came c =
    bounded_short (command_came c.args.frames.now (Some c.args.command) c.args.words.now) c.answer-came.result c.answer-came.new.frames
    c.answer-came.ensures.came (sym c.has_long_text.ensures ∙ c.if-has_long_text.false)
