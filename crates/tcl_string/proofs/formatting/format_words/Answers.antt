use Rattle.std.proofs.Common.{sym, subst, Err}
use Rattle.std.specs.Prelude.{codes}
use Rattle.txt_core.specs.ErrorTexts.{wrong_words, bad_value}
use Rattle.natives.specs.Answers.{Reply}
use Rattle.natives.specs.Parts.{parts}
use Rattle.tcl_string.specs.Early.{Comes}
use Rattle.tcl_string.proofs.Saying.{comes, answers_said}
use Rattle.tcl_string.proofs.Written.{no_pattern, too_few, enough, fits_with}
use Rattle.tcl_string.proofs.formatting.format_words.Goals as goal

pub returns-in_default : goal.returns-in_default
returns-in_default c =
    subst (λ (r : Reply). Comes r (Err c.bad_value.result)) (sym (no_pattern c.args.pattern.now (parts c.args.pattern.now) c.args.words.now c.in_default.ensures))
    (comes (Err (bad_value c.args.pattern.now (codes "format"))) (Err c.bad_value.result) (answers_said (bad_value c.args.pattern.now (codes "format")) c.bad_value.result c.bad_value.ensures))

pub returns-then-words-taken : goal.returns-then-words-taken
returns-then-words-taken c =
    subst (λ (r : Reply). Comes r (Err c.wrong_words.result)) (sym (too_few c.args.pattern.now (parts c.args.pattern.now) c.args.words.now c.in-Some.taken c.in-Some.ensures c.if-words-taken.true))
    (comes (Err (wrong_words (codes "format"))) (Err c.wrong_words.result) (answers_said (wrong_words (codes "format")) c.wrong_words.result c.wrong_words.ensures))

pub written-requires : goal.written-requires
written-requires c = enough (parts c.args.pattern.now) c.args.words.now c.in-Some.taken c.in-Some.ensures c.if-words-taken.false

pub returns : goal.returns
returns c =
    let fits = enough (parts c.args.pattern.now) c.args.words.now c.in-Some.taken c.in-Some.ensures c.if-words-taken.false in
    subst (λ (r : Reply). Comes r c.written.result) (fits_with c.args.pattern.now (parts c.args.pattern.now) c.args.words.now fits) c.written.ensures
