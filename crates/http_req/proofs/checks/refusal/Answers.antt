use Rattle.std.proofs.Common.{◌≡◌, true, false, sym, ap, ◌∙◌, arith, refl, Some, None}
use Rattle.std.specs.List.{list_any}
use Rattle.http_req.specs.Fields.{lengths, are_one_length, is_coded, is_mixed, has_host}
use Rattle.http_req.specs.Requests.{is_served}
use Rattle.http_req.specs.Targets.{is_target, is_unsafe}
use Rattle.http_req.proofs.FieldFacts.{length_told}
use Rattle.http_req.proofs.CheckFacts.{no_length, a_length, other_method, coded_body, mixed_body, bad_lengths, long_body, the_rest}
use Rattle.http_req.proofs.checks.refusal.Goals as goal
use Rattle.http_req.proofs.checks.refusal.Goals.{then-not-is_served-via-then-not-is_served, then-not-is_served-via-else-not-is_served+then-is_coded}
use Rattle.http_req.proofs.checks.refusal.Goals.{then-not-has_host-via-then-not-has_host, then-not-has_host-via-else-not-has_host+then-not-is_target, then-not-has_host-via-else-not-has_host+else-not-is_target+then-has_unsafe_segment}

pub returns-then-not-is_served : goal.returns-then-not-is_served
returns-then-not-is_served c =
    elim c.then-not-is_served.branch [
      | then-not-is_served-via-then-not-is_served w ↦
          let served : is_served c.args.request.now.method ≡ false = ap is_served (sym c.bytes.ensures) ∙ sym c.is_served.ensures ∙ w.if-not-is_served.true in
          other_method c.args.request.now c.requires.few served
      | then-not-is_served-via-else-not-is_served+then-is_coded w ↦
          let served : is_served c.args.request.now.method ≡ true = ap is_served (sym c.bytes.ensures) ∙ sym c.is_served.ensures ∙ w.if-not-is_served.false in
          let coded : is_coded c.args.request.now.fields ≡ true = ap is_coded (sym c.as_slice-fields.ensures) ∙ sym w.is_coded.ensures ∙ w.if-is_coded.true in
          coded_body c.args.request.now c.requires.few served coded
    ]

pub returns-then-is_mixed : goal.returns-then-is_mixed
returns-then-is_mixed c =
    let served : is_served c.args.request.now.method ≡ true = ap is_served (sym c.bytes.ensures) ∙ sym c.is_served.ensures ∙ c.if-not-is_served.false in
    let coded : is_coded c.args.request.now.fields ≡ false = ap is_coded (sym c.as_slice-fields.ensures) ∙ sym c.is_coded.ensures ∙ c.if-is_coded.false in
    mixed_body c.args.request.now c.requires.few served coded
    (ap (is_mixed c.args.request.now.minor) (sym c.as_slice-fields.ensures) ∙ sym c.is_mixed.ensures ∙ c.if-is_mixed.true)

pub returns-in_default : goal.returns-in_default
returns-in_default c =
    let served : is_served c.args.request.now.method ≡ true = ap is_served (sym c.bytes.ensures) ∙ sym c.is_served.ensures ∙ c.if-not-is_served.false in
    let coded : is_coded c.args.request.now.fields ≡ false = ap is_coded (sym c.as_slice-fields.ensures) ∙ sym c.is_coded.ensures ∙ c.if-is_coded.false in
    let mixed : is_mixed c.args.request.now.minor c.args.request.now.fields ≡ false =
    ap (is_mixed c.args.request.now.minor) (sym c.as_slice-fields.ensures) ∙ sym c.is_mixed.ensures ∙ c.if-is_mixed.false in
    let told : None ≡ length_told c.args.request.now.fields = sym c.in_default.is ∙ c.body_length.ensures ∙ ap length_told c.as_slice-fields.ensures in
    bad_lengths c.args.request.now c.requires.few served coded mixed (no_length _ _ told)

pub returns-then-length-gt-BODY_LIMIT : goal.returns-then-length-gt-BODY_LIMIT
returns-then-length-gt-BODY_LIMIT c =
    let served : is_served c.args.request.now.method ≡ true = ap is_served (sym c.bytes.ensures) ∙ sym c.is_served.ensures ∙ c.if-not-is_served.false in
    let coded : is_coded c.args.request.now.fields ≡ false = ap is_coded (sym c.as_slice-fields.ensures) ∙ sym c.is_coded.ensures ∙ c.if-is_coded.false in
    let mixed : is_mixed c.args.request.now.minor c.args.request.now.fields ≡ false =
    ap (is_mixed c.args.request.now.minor) (sym c.as_slice-fields.ensures) ∙ sym c.is_mixed.ensures ∙ c.if-is_mixed.false in
    let told : Some c.in-Some.length ≡ length_told c.args.request.now.fields = sym c.in-Some.is ∙ c.body_length.ensures ∙ ap length_told c.as_slice-fields.ensures in
    let length = a_length (are_one_length (lengths c.args.request.now.fields)) _ _ told in
    long_body c.args.request.now c.requires.few served coded mixed length.0 (omega (arith, length.1, c.if-length-gt-BODY_LIMIT.true))

pub returns-then-not-has_host : goal.returns-then-not-has_host
returns-then-not-has_host c =
    let served : is_served c.args.request.now.method ≡ true = ap is_served (sym c.bytes.ensures) ∙ sym c.is_served.ensures ∙ c.if-not-is_served.false in
    let coded : is_coded c.args.request.now.fields ≡ false = ap is_coded (sym c.as_slice-fields.ensures) ∙ sym c.is_coded.ensures ∙ c.if-is_coded.false in
    let mixed : is_mixed c.args.request.now.minor c.args.request.now.fields ≡ false =
    ap (is_mixed c.args.request.now.minor) (sym c.as_slice-fields.ensures) ∙ sym c.is_mixed.ensures ∙ c.if-is_mixed.false in
    let told : Some c.in-Some.length ≡ length_told c.args.request.now.fields = sym c.in-Some.is ∙ c.body_length.ensures ∙ ap length_told c.as_slice-fields.ensures in
    let length = a_length (are_one_length (lengths c.args.request.now.fields)) _ _ told in
    let rest = the_rest c.args.request.now c.requires.few served coded mixed length.0 (omega (arith, length.1, c.if-length-gt-BODY_LIMIT.false)) in
    let host : has_host c.args.request.now.minor c.args.request.now.fields ≡ c.has_host.result = ap (has_host c.args.request.now.minor) (sym c.as_slice-fields.ensures) ∙ sym c.has_host.ensures in
    elim c.then-not-has_host.branch [
      | then-not-has_host-via-then-not-has_host w ↦ sym (rest false _ _ (host ∙ w.if-not-has_host.true) refl refl)
      | then-not-has_host-via-else-not-has_host+then-not-is_target w ↦
          sym (rest true false _ (host ∙ w.if-not-has_host.false)
          (ap is_target (sym w.bytes-else-not-has_host.ensures) ∙ sym w.is_target.ensures ∙ w.if-not-is_target.true) refl)
      | then-not-has_host-via-else-not-has_host+else-not-is_target+then-has_unsafe_segment w ↦
          sym (rest true true true (host ∙ w.if-not-has_host.false)
          (ap is_target (sym w.bytes-else-not-has_host.ensures) ∙ sym w.is_target.ensures ∙ w.if-not-is_target.false)
          (ap (list_any is_unsafe) (sym w.as_slice.ensures) ∙ sym w.has_unsafe_segment.ensures ∙ w.if-has_unsafe_segment.true))
    ]

pub returns : goal.returns
returns c =
    let served : is_served c.args.request.now.method ≡ true = ap is_served (sym c.bytes.ensures) ∙ sym c.is_served.ensures ∙ c.if-not-is_served.false in
    let coded : is_coded c.args.request.now.fields ≡ false = ap is_coded (sym c.as_slice-fields.ensures) ∙ sym c.is_coded.ensures ∙ c.if-is_coded.false in
    let mixed : is_mixed c.args.request.now.minor c.args.request.now.fields ≡ false =
    ap (is_mixed c.args.request.now.minor) (sym c.as_slice-fields.ensures) ∙ sym c.is_mixed.ensures ∙ c.if-is_mixed.false in
    let told : Some c.in-Some.length ≡ length_told c.args.request.now.fields = sym c.in-Some.is ∙ c.body_length.ensures ∙ ap length_told c.as_slice-fields.ensures in
    let length = a_length (are_one_length (lengths c.args.request.now.fields)) _ _ told in
    let rest = the_rest c.args.request.now c.requires.few served coded mixed length.0 (omega (arith, length.1, c.if-length-gt-BODY_LIMIT.false)) in
    let host : has_host c.args.request.now.minor c.args.request.now.fields ≡ c.has_host.result = ap (has_host c.args.request.now.minor) (sym c.as_slice-fields.ensures) ∙ sym c.has_host.ensures in
    sym (rest true true false (host ∙ c.if-not-has_host.false)
    (ap is_target (sym c.bytes-else-not-has_host.ensures) ∙ sym c.is_target.ensures ∙ c.if-not-is_target.false)
    (ap (list_any is_unsafe) (sym c.as_slice.ensures) ∙ sym c.has_unsafe_segment.ensures ∙ c.if-has_unsafe_segment.false))
