use Rattle.std.proofs.Common.{◌∙◌}
use Rattle.std.proofs.lemmas.Result.{on_ok_weaker}
use Rattle.tcl_string.specs.Patterns.{form_of}
use Rattle.tcl_string.proofs.Filled.{filled_left, filled_zeros, filled_spaces}
use Rattle.tcl_string.proofs.filling.put_filled.Goals as goal

pub returns-then-form : goal.returns-then-form
returns-then-form c =
    on_ok_weaker c.put_times.result (λ e. e ∙ rw (c.in_ok-append-2.ensures.ok, c.in_ok-append.ensures.ok, c.missing-missing.ensures) (filled_left (form_of c.args.form) c.args.out.now c.args.sign.now c.args.text.now c.if-form.true)) c.put_times.ensures

pub returns-then-form-2 : goal.returns-then-form-2
returns-then-form-2 c =
    on_ok_weaker c.append-then-form-2-2.result (λ e. e ∙ rw (c.in_ok-put_times.ensures, c.in_ok-append-3.ensures.ok, c.missing-missing.ensures) (filled_zeros (form_of c.args.form) c.args.out.now c.args.sign.now c.args.text.now c.if-form.false c.if-form-2.true)) c.append-then-form-2-2.ensures.ok

pub returns : goal.returns
returns c =
    on_ok_weaker c.append-3.result (λ e. e ∙ rw (c.in_ok-append-4.ensures.ok, c.in_ok-put_times-2.ensures, c.missing-missing.ensures) (filled_spaces (form_of c.args.form) c.args.out.now c.args.sign.now c.args.text.now c.if-form.false c.if-form-2.false)) c.append-3.ensures.ok
