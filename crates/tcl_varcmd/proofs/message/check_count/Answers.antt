use Rattle.std.proofs.Common.{◌≤◌, ◌∙◌, sym, length}
use Rattle.txt_core.specs.ErrorTexts.{wrong_words}
use Rattle.tcl_varcmd.specs.Errors.{count_error}
use Rattle.tcl_varcmd.proofs.Exits.{tried_said}
use Rattle.tcl_varcmd.proofs.Counts.{too_few, too_many, right_count, not_less}
use Rattle.tcl_varcmd.proofs.message.check_count.Goals as goal

pub returns-then-are_fewer : goal.returns-then-are_fewer
returns-then-are_fewer c =
    tried_said {A = Unit {0}} (λ _. (c.args.least ≤ length c.args.words.now) × (length c.args.words.now ≤ c.args.most)) (count_error c.args.least c.args.most c.args.words.now c.args.command.now) (wrong_words c.args.command.now) c.wrong_words.result
    (too_few c.args.least c.args.most c.args.words.now c.args.command.now (sym c.are_fewer.ensures.test ∙ c.if-are_fewer.true)) c.wrong_words.ensures

pub returns-then-are_more : goal.returns-then-are_more
returns-then-are_more c =
    tried_said {A = Unit {0}} (λ _. (c.args.least ≤ length c.args.words.now) × (length c.args.words.now ≤ c.args.most)) (count_error c.args.least c.args.most c.args.words.now c.args.command.now) (wrong_words c.args.command.now) c.wrong_words-then-are_more.result
    (too_many c.args.least c.args.most c.args.words.now c.args.command.now (sym c.are_fewer.ensures.test ∙ c.if-are_fewer.false) (sym c.are_more.ensures.test ∙ c.if-are_more.true)) c.wrong_words-then-are_more.ensures

pub returns : goal.returns
returns c =
    (right_count c.args.least c.args.most c.args.words.now c.args.command.now (sym c.are_fewer.ensures.test ∙ c.if-are_fewer.false) (sym c.are_more.ensures.test ∙ c.if-are_more.false), (not_less (length c.args.words.now) c.args.least (sym c.are_fewer.ensures.test ∙ c.if-are_fewer.false), not_less c.args.most (length c.args.words.now) (sym c.are_more.ensures.test ∙ c.if-are_more.false)))
