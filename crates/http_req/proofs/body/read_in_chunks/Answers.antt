use Rattle.std.proofs.Common.{◌≡◌, ◌+◌, ◌≤◌, length, drop, refl, sym, subst, arith}
use Rattle.std.proofs.lemmas.Result.{err_from_is_err_and}
use Rattle.http_req.specs.Bodies.{SentStops}
use Rattle.http_req.specs.Chunks.{ChunksAt, trailing}
use Rattle.http_req.specs.Outcomes.{sent_front}
use Rattle.http_req.proofs.BodyFacts.{start_within, sent_answer, sent_stops_then, trailer_stops, sent_grows, chunks_grow, chunks_whole, trailer_size}
use Rattle.http_req.proofs.Fetches.{moves_then, moves_longer}
use Rattle.http_req.proofs.Receiving.{received_no_request, received_request, sent_size}
use Rattle.http_req.proofs.body.read_in_chunks.Goals as goal

pub read_chunks-requires-clause-within : goal.read_chunks-requires-clause-within
read_chunks-requires-clause-within g c = (start_within _ _ _ _ c.requires.passes).0

pub read_chunks-requires-clause-early : goal.read_chunks-requires-clause-early
read_chunks-requires-clause-early g c = (start_within _ _ _ _ c.requires.passes).1

pub returns-in_err-body : goal.returns-in_err-body
returns-in_err-body g c =
    let p = err_from_is_err_and c.from_residual.result c.from_residual.ensures.1 in
    rw p.1 (received_no_request _ _ _ _ _ _ c.args.request.now.peer p.0 c.read_chunks.ensures.moves
    (sent_answer _ _ _ _ _ _ c.args.request.now.peer c.args.start c.args.request.now p.0 c.requires.passes c.read_chunks.ensures.moves c.requires.chunked
    (subst (λ answer. SentStops (ChunksAt 0 (sent_front c.args.start c.read_chunks.new.carry)) c.read_chunks.new.carry c.args.start (g.S.Source.rest c.args.source.now) (g.S.Source.faults c.args.source.now) (g.S.Source.rest c.read_chunks.new.source) (g.S.Source.faults c.read_chunks.new.source) answer)
    (sym p.2) c.in_err-body.ensures.stops)))

pub read_trailer-requires-clause-within : goal.read_trailer-requires-clause-within
read_trailer-requires-clause-within g c = omega (arith, (start_within _ _ _ _ c.requires.passes).0, moves_longer c.read_chunks.ensures.moves)

pub read_trailer-requires-clause-early : goal.read_trailer-requires-clause-early
read_trailer-requires-clause-early g c = (start_within _ _ _ _ c.requires.passes).1

pub returns-in_err-len : goal.returns-in_err-len
returns-in_err-len g c =
    let p = err_from_is_err_and c.from_residual-in_err-len.result c.from_residual-in_err-len.ensures.1 in
    let inside : c.args.start ≤ length c.read_chunks.new.carry = omega (arith, (start_within _ _ _ _ c.requires.passes).0, moves_longer c.read_chunks.ensures.moves) in
    let further = sent_grows c.args.start c.read_trailer.ensures.moves inside in
    let chunks = chunks_grow _ c.in_ok-body.field-0.body c.in_ok-body.field-0.len further.0 (sent_front c.args.start c.read_trailer.new.carry) further.1
    c.in_ok-body.ensures.ends in
    let moves = moves_then c.read_chunks.ensures.moves c.read_trailer.ensures.moves in
    rw p.1 (received_no_request _ _ _ _ _ _ c.args.request.now.peer p.0 moves
    (sent_answer _ _ _ _ _ _ c.args.request.now.peer c.args.start c.args.request.now p.0 c.requires.passes moves c.requires.chunked
    (sent_stops_then c.read_chunks.ensures.moves c.read_trailer.new.carry c.args.start _ _ p.0
    (trailer_stops c.read_trailer.new.carry (sent_front c.args.start c.read_trailer.new.carry) c.in_ok-body.field-0.body c.in_ok-body.field-0.len c.args.start p.0 chunks
    (subst (λ answer. SentStops (λ is. trailing (drop c.in_ok-body.field-0.len (sent_front c.args.start c.read_trailer.new.carry)) ≡ is) c.read_trailer.new.carry c.args.start (g.S.Source.rest c.read_chunks.new.source) (g.S.Source.faults c.read_chunks.new.source) (g.S.Source.rest c.read_trailer.new.source) (g.S.Source.faults c.read_trailer.new.source) answer)
    (sym p.2) c.in_err-len.ensures.stops)))))

pub overflow_add-start : goal.overflow_add-start
overflow_add-start g c =
    let early = start_within _ _ _ _ c.requires.passes in
    let inside : c.args.start ≤ length c.read_trailer.new.carry = omega (arith, early.0, moves_longer c.read_chunks.ensures.moves, moves_longer c.read_trailer.ensures.moves) in
    let before : c.args.start ≤ length c.read_chunks.new.carry = omega (arith, early.0, moves_longer c.read_chunks.ensures.moves) in
    let further = sent_grows c.args.start c.read_trailer.ensures.moves before in
    let chunks = chunks_grow _ c.in_ok-body.field-0.body c.in_ok-body.field-0.len further.0 (sent_front c.args.start c.read_trailer.new.carry) further.1
    c.in_ok-body.ensures.ends in
    omega (arith, early.1, trailer_size (sent_front c.args.start c.read_trailer.new.carry) c.in_ok-body.field-0.len c.in_ok-len.len chunks.within c.in_ok-len.ensures.ends, (sent_size c.args.start c.read_trailer.new.carry inside).1)

pub use_up-requires : goal.use_up-requires
use_up-requires g c =
    let early = start_within _ _ _ _ c.requires.passes in
    let inside : c.args.start ≤ length c.read_trailer.new.carry = omega (arith, early.0, moves_longer c.read_chunks.ensures.moves, moves_longer c.read_trailer.ensures.moves) in
    let before : c.args.start ≤ length c.read_chunks.new.carry = omega (arith, early.0, moves_longer c.read_chunks.ensures.moves) in
    let further = sent_grows c.args.start c.read_trailer.ensures.moves before in
    let chunks = chunks_grow _ c.in_ok-body.field-0.body c.in_ok-body.field-0.len further.0 (sent_front c.args.start c.read_trailer.new.carry) further.1
    c.in_ok-body.ensures.ends in
    (chunks_whole _ c.read_trailer.new.carry _ _ _ _ c.args.request.now.peer c.args.start c.args.request.now (record c.args.request.now { body = c.in_ok-body.field-0.body }) c.in_ok-body.field-0.body c.in_ok-body.field-0.len c.in_ok-len.len
    c.requires.passes (moves_then c.read_chunks.ensures.moves c.read_trailer.ensures.moves) c.requires.chunked inside chunks c.in_ok-len.ensures.ends refl).1

pub returns : goal.returns
returns g c =
    let early = start_within _ _ _ _ c.requires.passes in
    let inside : c.args.start ≤ length c.read_trailer.new.carry = omega (arith, early.0, moves_longer c.read_chunks.ensures.moves, moves_longer c.read_trailer.ensures.moves) in
    let before : c.args.start ≤ length c.read_chunks.new.carry = omega (arith, early.0, moves_longer c.read_chunks.ensures.moves) in
    let further = sent_grows c.args.start c.read_trailer.ensures.moves before in
    let chunks = chunks_grow _ c.in_ok-body.field-0.body c.in_ok-body.field-0.len further.0 (sent_front c.args.start c.read_trailer.new.carry) further.1
    c.in_ok-body.ensures.ends in
    let moves = moves_then c.read_chunks.ensures.moves c.read_trailer.ensures.moves in
    let gets = (chunks_whole _ c.read_trailer.new.carry _ _ _ _ c.args.request.now.peer c.args.start c.args.request.now (record c.args.request.now { body = c.in_ok-body.field-0.body }) c.in_ok-body.field-0.body c.in_ok-body.field-0.len c.in_ok-len.len
    c.requires.passes moves c.requires.chunked inside chunks c.in_ok-len.ensures.ends refl).0 in
    rw c.set_body.ensures (received_request _ _ _ _ _ _ _ _ (c.args.start + c.in_ok-len.len) _ moves gets c.use_up.ensures)
