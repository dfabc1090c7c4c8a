use Rattle.std.proofs.Common.{◌≡◌, ◌∷◌, rules, arith}
use Rattle.tcl_string.specs.Patterns.{letter_code}
use Rattle.tcl_string.proofs.Widths.{form_found}
use Rattle.tcl_string.proofs.pattern.form_behind.Goals as goal

pub returns : goal.returns
returns c =
    let cut : c.width-width.result.1.now ≡ c.in_ok-byte.byte.now ∷ c.in_ok-byte.behind.now = search rules in
    form_found c.args.left c.args.zeros c.args.bytes.now c.width-width.result.1.now c.in_ok-byte.behind.now c.width-width.result.0 c.in_ok-byte.byte.now (letter_code c.in_ok-letter.letter)
    c.width-width.ensures.value c.width-width.ensures.behind cut (omega arith) c.in_ok-letter.ensures
