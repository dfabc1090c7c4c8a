use Rattle.std.proofs.Common.{◌∙◌}
use Rattle.tcl_string.proofs.PatternParts.{flags_at}
use Rattle.tcl_string.proofs.pattern.form_at.Goals as goal

pub returns : goal.returns
returns c =
    c.form_behind.ensures
    ∙ flags_at c.args.bytes.now c.flag-left.result.1.now c.flag-zeros.result.1.now c.flag-left.result.0 c.flag-zeros.result.0 c.flag-left.ensures.stands c.flag-left.ensures.behind c.flag-zeros.ensures.stands c.flag-zeros.ensures.behind
