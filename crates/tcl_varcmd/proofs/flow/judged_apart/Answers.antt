use Rattle.std.proofs.Common.{◌∙◌, sym, Some}
use Rattle.natives.specs.declared.fault.Fault.TheVariants.{Error}
use Rattle.tcl_varcmd.specs.Commands.{command_came}
use Rattle.tcl_varcmd.proofs.Judging.{bounded_long, bounded_short}
use Rattle.tcl_varcmd.proofs.flow.judged_apart.Goals as goal

pub returns-then-has_long_text-clause-came : goal.returns-then-has_long_text-clause-came
returns-then-has_long_text-clause-came c =
    bounded_long (command_came c.args.frames.now (Some c.args.command) c.args.words.now) c.answer-came.result (Error c.in_ok-over.over) c.answer-came.new.frames
    c.answer-came.ensures.came (sym c.has_long_text.ensures ∙ c.if-has_long_text.true) c.in_ok-over.ensures

pub returns-clause-came : goal.returns-clause-came
returns-clause-came c =
    bounded_short (command_came c.args.frames.now (Some c.args.command) c.args.words.now) c.answer-came.result c.answer-came.new.frames
    c.answer-came.ensures.came (sym c.has_long_text.ensures ∙ c.if-has_long_text.false)
