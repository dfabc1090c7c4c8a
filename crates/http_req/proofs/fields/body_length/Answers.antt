use Rattle.std.proofs.Common.{sym, ap, ◌∙◌}
use Rattle.std.specs.Option.{option_copied}
use Rattle.http_req.proofs.FieldFacts.{length_absent, length_found, length_bad, and_first, and_second}
use Rattle.http_req.proofs.fields.body_length.Goals as goal
use Rattle.http_req.proofs.fields.body_length.Goals.{else-is_length-via-then-is_length+else-all_lengths_are, else-is_length-via-else-is_length}

pub returns-in_default : goal.returns-in_default
returns-in_default c = length_absent c.args.fields.now (sym c.first_of.ensures ∙ ap option_copied c.in_default.is)

pub returns-then-all_lengths_are : goal.returns-then-all_lengths_are
returns-then-all_lengths_are c =
    length_found c.args.fields.now c.in-Some.first.now c.bytes-value.result.now c.number.result
    (sym c.first_of.ensures ∙ ap option_copied c.in-Some.is) c.bytes-value.ensures
    (sym c.is_length.ensures ∙ c.if-is_length.true) (sym c.all_lengths_are.ensures ∙ c.if-all_lengths_are.true) c.number.ensures

pub returns-else-is_length : goal.returns-else-is_length
returns-else-is_length c =
    length_bad c.args.fields.now c.in-Some.first.now c.bytes-value.result.now
    (sym c.first_of.ensures ∙ ap option_copied c.in-Some.is) c.bytes-value.ensures
    (elim c.else-is_length.branch [
      | else-is_length-via-then-is_length+else-all_lengths_are w ↦ and_second _ _ (sym w.all_lengths_are.ensures ∙ w.if-all_lengths_are.false)
      | else-is_length-via-else-is_length w ↦ and_first _ _ (sym c.is_length.ensures ∙ w.if-is_length.false)
    ])
