use Rattle.std.proofs.Common.{◌≡◌, true, false}
use Rattle.txt_core.specs.Limits.{is_long}
use Rattle.tcl_string.proofs.Saying.{comes_long}
use Rattle.tcl_string.proofs.output.Output.into_text.Goals as goal

pub returns-in-Whole : goal.returns-in-Whole
returns-in-Whole c = λ text keeps.
    let whole : (c.in-Whole.text ≡ text) × (is_long text ≡ false) = rw c.in-Whole.is at keeps in
    whole.0

pub returns-in-TooLong : goal.returns-in-TooLong
returns-in-TooLong c = λ text keeps.
    let long : is_long text ≡ true = rw c.in-TooLong.is at keeps in
    comes_long text c.too_long.result long c.too_long.ensures
