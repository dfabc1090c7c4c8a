use Rattle.std.proofs.Common.{◌∙◌, Err, ap, sym}
use Rattle.http_resp.proofs.FieldLemmas.{no_name_isnt_sent, no_value_isnt_sent, is_sent_is}
use Rattle.http_resp.proofs.fields.is_sent.Goals as goal
use Rattle.http_resp.proofs.fields.is_sent.Goals.{then-is_value, else-is_value}

pub returns-in-Err-Invalid : goal.returns-in-Err-Invalid
returns-in-Err-Invalid c = no_name_isnt_sent c.args.name.now c.args.value.now (c.in-Err-Invalid.ensures.invalid.0 (ap (λ e. Err e) c.in-Err-Invalid.field-0-is))

pub returns : goal.returns
returns c = elim c.if-is_value.branch [
  | then-is_value w ↦ w.result-is ∙ is_sent_is c.args.name.now c.args.value.now c.in-Ok.name w.as_str.result.now w.is_own.result c.in-Ok.ensures.ok w.as_str.ensures.valid w.as_str.ensures.value (sym c.is_value.ensures ∙ w.if-is_value.true) w.is_own.ensures
  | else-is_value w ↦ w.result-is ∙ (w.if-is_value.false ∙ no_value_isnt_sent c.args.name.now c.args.value.now (sym c.is_value.ensures ∙ w.if-is_value.false))
]
