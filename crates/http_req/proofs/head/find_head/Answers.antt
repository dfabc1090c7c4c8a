use Rattle.std.proofs.Common.{rules, ◌≡◌, ◌<◌, length, ap, Err, subst, arith}
use Rattle.std.proofs.lemmas.Bool.Decides.{nat_tests}
use Rattle.httparse.specs.Grammar.{HasNoRequest, MayBecomeRequest}
use Rattle.httparse.specs.Spans.{RequestExceeds}
use Rattle.http_req.specs.Heads.{front}
use Rattle.http_req.specs.Fronts.{AreWholeLines, HeadStands}
use Rattle.http_req.specs.declared.head.Front.TheVariants.{Refused, Crowded}
use Rattle.http_req.proofs.HeadFacts.{none_by_lines, none_without_lines, fine_without_lines}
use Rattle.http_req.proofs.OutcomeFacts.{front_lines, one_by_front, malformed_lines, open_lines, head_in_front, one_by_head, exceeds_in_front}
use Rattle.http_req.proofs.head.find_head.Goals as goal

pub without_head-requires-clause-none : goal.without_head-requires-clause-none
without_head-requires-clause-none c =
    let are : AreWholeLines (front c.args.input.now) c.whole_lines-lines.result.now = front_lines c.args.input.now c.whole_lines-lines.result.now _ (omega (arith, c.min.ensures)) c.whole_lines-lines.ensures in
    let empty : length c.whole_lines-lines.result.now ≡ 0 = grind (arith, nat_tests) in
    none_without_lines are empty

pub without_head-requires-clause-fine : goal.without_head-requires-clause-fine
without_head-requires-clause-fine c =
    let are : AreWholeLines (front c.args.input.now) c.whole_lines-lines.result.now = front_lines c.args.input.now c.whole_lines-lines.result.now _ (omega (arith, c.min.ensures)) c.whole_lines-lines.ensures in
    let empty : length c.whole_lines-lines.result.now ≡ 0 = grind (arith, nat_tests) in
    fine_without_lines are empty

pub returns-then-is_empty-clause-finds : goal.returns-then-is_empty-clause-finds
returns-then-is_empty-clause-finds c = c.without_head.ensures c.args.spans.now

pub returns-then-is_empty-clause-one : goal.returns-then-is_empty-clause-one
returns-then-is_empty-clause-one c = one_by_front c.args.input.now c.args.spans.now c.without_head.result (c.without_head.ensures c.args.spans.now)

pub without_head-requires-in-Ok-Partial-clause-none : goal.without_head-requires-in-Ok-Partial-clause-none
without_head-requires-in-Ok-Partial-clause-none c =
    let are : AreWholeLines (front c.args.input.now) c.whole_lines-lines.result.now = front_lines c.args.input.now c.whole_lines-lines.result.now _ (omega (arith, c.min.ensures)) c.whole_lines-lines.ensures in
    let none : HasNoRequest c.whole_lines-lines.result.now = search rules in
    none_by_lines are none

pub without_head-requires-in-Ok-Partial-clause-fine : goal.without_head-requires-in-Ok-Partial-clause-fine
without_head-requires-in-Ok-Partial-clause-fine c =
    let are : AreWholeLines (front c.args.input.now) c.whole_lines-lines.result.now = front_lines c.args.input.now c.whole_lines-lines.result.now _ (omega (arith, c.min.ensures)) c.whole_lines-lines.ensures in
    let may : MayBecomeRequest c.whole_lines-lines.result.now = search rules in
    let some : 0 < length c.whole_lines-lines.result.now = grind (arith, nat_tests) in
    open_lines are some may

pub returns-in-Ok-Partial-clause-finds : goal.returns-in-Ok-Partial-clause-finds
returns-in-Ok-Partial-clause-finds c = c.without_head-in-Ok-Partial.ensures _

pub returns-in-Ok-Partial-clause-one : goal.returns-in-Ok-Partial-clause-one
returns-in-Ok-Partial-clause-one c = one_by_front c.args.input.now c.args.spans.now c.without_head-in-Ok-Partial.result (c.without_head-in-Ok-Partial.ensures _)

pub returns-in-Ok-Complete-clause-finds : goal.returns-in-Ok-Complete-clause-finds
returns-in-Ok-Complete-clause-finds c =
    let are : AreWholeLines (front c.args.input.now) c.whole_lines-lines.result.now = front_lines c.args.input.now c.whole_lines-lines.result.now _ (omega (arith, c.min.ensures)) c.whole_lines-lines.ensures in
    let stands : HeadStands c.whole_lines-lines.result.now c.parse_request.new.headers c.in-Ok-Complete.head = record { within = search rules; of = search rules } in
    head_in_front c.args.input.now c.whole_lines-lines.result.now are c.parse_request.new.headers c.in-Ok-Complete.head stands

pub returns-in-Ok-Complete-clause-one : goal.returns-in-Ok-Complete-clause-one
returns-in-Ok-Complete-clause-one c =
    let are : AreWholeLines (front c.args.input.now) c.whole_lines-lines.result.now = front_lines c.args.input.now c.whole_lines-lines.result.now _ (omega (arith, c.min.ensures)) c.whole_lines-lines.ensures in
    let stands : HeadStands c.whole_lines-lines.result.now c.parse_request.new.headers c.in-Ok-Complete.head = record { within = search rules; of = search rules } in
    λ room. one_by_head c.args.input.now c.parse_request.new.headers c.in-Ok-Complete.head (head_in_front c.args.input.now c.whole_lines-lines.result.now are c.parse_request.new.headers c.in-Ok-Complete.head stands)

pub returns-in-TooManyHeaders-clause-finds : goal.returns-in-TooManyHeaders-clause-finds
returns-in-TooManyHeaders-clause-finds c =
    let are : AreWholeLines (front c.args.input.now) c.whole_lines-lines.result.now = front_lines c.args.input.now c.whole_lines-lines.result.now _ (omega (arith, c.min.ensures)) c.whole_lines-lines.ensures in
    let exceeds = exceeds_in_front c.args.input.now c.whole_lines-lines.result.now are (length c.args.spans.now) (c.in-Err.ensures.too_many (ap (λ e. Err e) c.in-TooManyHeaders.is)) in
    let same : length c.args.spans.now ≡ length c.parse_request.new.headers = omega (arith, c.parse_request.auto.headers) in
    subst (λ room. RequestExceeds room (front c.args.input.now)) same exceeds

pub returns-in-TooManyHeaders-clause-one : goal.returns-in-TooManyHeaders-clause-one
returns-in-TooManyHeaders-clause-one c =
    let are : AreWholeLines (front c.args.input.now) c.whole_lines-lines.result.now = front_lines c.args.input.now c.whole_lines-lines.result.now _ (omega (arith, c.min.ensures)) c.whole_lines-lines.ensures in
    let exceeds = exceeds_in_front c.args.input.now c.whole_lines-lines.result.now are (length c.args.spans.now) (c.in-Err.ensures.too_many (ap (λ e. Err e) c.in-TooManyHeaders.is)) in
    one_by_front c.args.input.now c.args.spans.now Crowded exceeds

pub returns-in_default : goal.returns-in_default
returns-in_default c =
    let are : AreWholeLines (front c.args.input.now) c.whole_lines-lines.result.now = front_lines c.args.input.now c.whole_lines-lines.result.now _ (omega (arith, c.min.ensures)) c.whole_lines-lines.ensures in
    let some : 0 < length c.whole_lines-lines.result.now = grind (arith, nat_tests) in
    let gets = malformed_lines are some (c.in-Err.ensures.invalid c.in_default.not-TooManyHeaders) in
    record { finds = gets; one = one_by_front c.args.input.now c.args.spans.now (Refused 400) gets }
