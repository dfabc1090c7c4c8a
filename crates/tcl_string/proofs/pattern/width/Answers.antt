use Rattle.std.proofs.Common.{◌≡◌, ◌∙◌, ap, ℕ, ◌<◌, ◌≤◌, min, List, length, get_or, true, false, below_more, arith}
use Rattle.txt_core.specs.Digits.{is_digit, value_of}
use Rattle.tcl_string.proofs.Widths.{digits_are, digits_left, width_more}
use Rattle.tcl_string.proofs.pattern.width.Goals as goal
use Rattle.tcl_string.proofs.pattern.width.Goals.{else-digits-test, then-digits-test+in_default}

pub digits-preserved : goal.digits-preserved
digits-preserved c =
    let test : is_digit 10 (get_or c.args.bytes.now c.digits.byte-index 0) ≡ true = c.in-Some.ensures.0 in
    record {
      counted = omega arith;
      digits = below_more _ _ c.digits.invariant.digits test;
      value = c.min-width.ensures ∙ width_more c.args.bytes.now c.digits.byte-index c.digits.width c.in-Some.digit c.digits-test.true c.digits.invariant.value c.in-Some.ensures.1;
    }

pub returns-clause-value : goal.returns-clause-value
returns-clause-value c =
    let within : c.digits.byte-index ≤ length c.args.bytes.now = omega arith in
    let stops : c.digits.byte-index < length c.args.bytes.now → is_digit 10 (get_or c.args.bytes.now c.digits.byte-index 0) ≡ false = elim c.digits-test.branch [ else-digits-test w ↦ (λ lt. absurd (omega arith)) | then-digits-test+in_default w ↦ (λ lt. w.in_default.ensures) ] in
    c.digits.invariant.value ∙ ap (λ (u : List ℕ). min (value_of 10 u) 1001) (digits_are c.args.bytes.now c.digits.byte-index within c.digits.invariant.digits stops)

pub returns-clause-behind : goal.returns-clause-behind
returns-clause-behind c =
    let within : c.digits.byte-index ≤ length c.args.bytes.now = omega arith in
    let stops : c.digits.byte-index < length c.args.bytes.now → is_digit 10 (get_or c.args.bytes.now c.digits.byte-index 0) ≡ false = elim c.digits-test.branch [ else-digits-test w ↦ (λ lt. absurd (omega arith)) | then-digits-test+in_default w ↦ (λ lt. w.in_default.ensures) ] in
    digits_left c.args.bytes.now c.digits.byte-index c.digits.count c.digits.invariant.counted within (digits_are c.args.bytes.now c.digits.byte-index within c.digits.invariant.digits stops)
