use Rattle.std.proofs.Common.{sym, ◌∙◌}
use Rattle.natives.proofs.Limiting.{limited_long, limited_short}
use Rattle.natives.proofs.word.within_limit.Goals as goal

pub returns-then-has_long_text : goal.returns-then-has_long_text
returns-then-has_long_text c reply answers =
    limited_long reply c.args.answer c.too_long.result answers (sym c.has_long_text.ensures ∙ c.if-has_long_text.true) c.too_long.ensures

pub returns : goal.returns
returns c reply answers =
    limited_short reply c.args.answer answers (sym c.has_long_text.ensures ∙ c.if-has_long_text.false)
