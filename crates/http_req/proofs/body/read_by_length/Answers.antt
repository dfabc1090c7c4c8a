use Rattle.std.proofs.Common.{◌+◌, ◌-◌, ℕ, List, sym, ap, ◌∙◌, subst, arith, take, drop}
use Rattle.http_req.specs.declared.request.Request.{Request}
use Rattle.http_req.specs.Readings.{Stops}
use Rattle.http_req.proofs.FieldFacts.{length_told}
use Rattle.http_req.proofs.Receiving.{read_length, body_short, body_whole, cut_stops, received_no_request, received_request}
use Rattle.http_req.proofs.body.read_by_length.Goals as goal

pub overflow_add-used : goal.overflow_add-used
overflow_add-used g c =
    let read = read_length _ _ _ _ c.requires.passes c.body_length.result (c.body_length.ensures ∙ ap length_told c.as_slice.ensures ∙ ap (λ (r : Request). length_told r.fields) c.get.ensures) c.unwrap_or-length.result c.unwrap_or-length.ensures in
    omega (arith, read.1)

pub returns-in-Err : goal.returns-in-Err
returns-in-Err g c =
    let read = read_length _ _ _ _ c.requires.passes c.body_length.result (c.body_length.ensures ∙ ap length_told c.as_slice.ensures ∙ ap (λ (r : Request). length_told r.fields) c.get.ensures) c.unwrap_or-length.result c.unwrap_or-length.ensures in
    let gets = body_short _ _ _ _ _ _ _ _ _ c.requires.passes c.in-Err.ensures.moves c.requires.plain (omega (arith, read.0, c.in-Err.ensures.short)) in
    received_no_request _ _ _ _ _ _ _ _ c.in-Err.ensures.moves
    (subst (λ answer. Stops c.fetch_up_to.new.self c.args.request.now.peer (g.S.Source.rest c.args.source.now) (g.S.Source.faults c.args.source.now) (g.S.Source.rest c.fetch_up_to.new.source) (g.S.Source.faults c.fetch_up_to.new.source) answer)
    (sym c.cut_off.ensures) (cut_stops _ _ _ _ _ c.in-Err.stop _ gets c.in-Err.ensures.stopped))

pub returns : goal.returns
returns g c =
    let read = read_length _ _ _ _ c.requires.passes c.body_length.result (c.body_length.ensures ∙ ap length_told c.as_slice.ensures ∙ ap (λ (r : Request). length_told r.fields) c.get.ensures) c.unwrap_or-length.result c.unwrap_or-length.ensures in
    let used : ℕ = c.args.start + c.unwrap_or-length.result in
    let gets = body_whole c.args.carry.now c.fetch_up_to.new.self _ _ _ _ _ _ c.args.request.now (record c.args.request.now { body = c.in_ok-body.body }) used c.requires.passes c.fetch_up_to.ensures.moves c.requires.plain
    (omega (arith, read.0)) c.in_default.ensures.enough
    (ap (λ (body : List ℕ). let q : Request = record c.args.request.now { body = body } in q) (c.in_ok-body.ensures ∙ ap (λ (bytes : List ℕ). take (used - c.args.start) (drop c.args.start bytes)) c.bytes.ensures)) in
    rw c.set_body.ensures (received_request _ _ _ _ _ _ _ _ used _ c.fetch_up_to.ensures.moves gets c.use_up.ensures)
