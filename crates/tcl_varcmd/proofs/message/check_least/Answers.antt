use Rattle.std.proofs.Common.{◌≤◌, ◌∙◌, sym, length}
use Rattle.txt_core.specs.ErrorTexts.{wrong_words}
use Rattle.tcl_varcmd.specs.Errors.{least_error}
use Rattle.tcl_varcmd.proofs.Exits.{tried_said}
use Rattle.tcl_varcmd.proofs.Counts.{too_few_least, enough, not_less}
use Rattle.tcl_varcmd.proofs.message.check_least.Goals as goal

pub returns-then-are_fewer : goal.returns-then-are_fewer
returns-then-are_fewer c =
    tried_said {A = Unit {0}} (λ _. c.args.least ≤ length c.args.words.now) (least_error c.args.least c.args.words.now c.args.command.now) (wrong_words c.args.command.now) c.wrong_words.result
    (too_few_least c.args.least c.args.words.now c.args.command.now (sym c.are_fewer.ensures.test ∙ c.if-are_fewer.true)) c.wrong_words.ensures

pub returns : goal.returns
returns c =
    (enough c.args.least c.args.words.now c.args.command.now (sym c.are_fewer.ensures.test ∙ c.if-are_fewer.false), not_less (length c.args.words.now) c.args.least (sym c.are_fewer.ensures.test ∙ c.if-are_fewer.false))
