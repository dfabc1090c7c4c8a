use Rattle.std.proofs.Common.{◌≡◌, ◌+◌, ◌-◌, ◌≤◌, ◌<◌, ℕ, List, length, drop, take, refl, sym, ap, ◌∙◌, subst, arith, length-drop}
use Rattle.std.proofs.lemmas.Result.{err_from_is_err_and}
use Rattle.http_req.specs.Bodies.{Halts, by_refusal}
use Rattle.http_req.specs.Chunks.{chunk, last, refused, less, piece_at}
use Rattle.http_req.specs.Outcomes.{sent_front}
use Rattle.http_req.proofs.ChunkFacts.{chunk_fits, last_fits}
use Rattle.http_req.proofs.BodyFacts.{ReadsTo, reads_chunk, reads_last, reads_refused, reads_less, reads_grow, halts_stop, stopped_later, stopped_at, sent_grows, fetch_smaller}
use Rattle.http_req.proofs.Fetches.{moves_then, moves_longer}
use Rattle.http_req.proofs.Receiving.{sent_size, sent_exact}
use Rattle.http_req.proofs.body.read_chunks.Goals as goal

pub overflow_add-at : goal.overflow_add-at
overflow_add-at g c =
    let text = sent_front c.args.start c.loop-line.carry in
    let piece : piece_at (length c.loop-line.body) (drop c.loop-line.at text) ≡ chunk c.in-Data.line c.in-Data.size =
    ap (λ n. piece_at n (drop c.loop-line.at text)) (sym c.len.ensures)
    ∙ ap (piece_at c.len.result) (sym (c.behind.ensures ∙ ap (λ (t : List ℕ). drop c.loop-line.at t) c.sent_behind-sent.ensures)) ∙ c.in-Data.ensures in
    let fits = chunk_fits (length c.loop-line.body) (drop c.loop-line.at text) c.in-Data.line c.in-Data.size piece in
    let inside : c.args.start ≤ length c.loop-line.carry = omega (arith, c.requires.within, moves_longer c.loop-line.invariant.moves) in
    let size = sent_size c.args.start c.loop-line.carry inside in
    let all : c.loop-line.at + (c.in-Data.line + c.in-Data.size + 2) ≤ length text = omega (arith, fits.within, c.loop-line.invariant.reads.within, length-drop c.loop-line.at text) in
    omega (arith, all, size.1, ap length c.sent_behind-sent.ensures)

pub overflow_add-at-in-Data : goal.overflow_add-at-in-Data
overflow_add-at-in-Data g c =
    let text = sent_front c.args.start c.loop-line.carry in
    let piece : piece_at (length c.loop-line.body) (drop c.loop-line.at text) ≡ chunk c.in-Data.line c.in-Data.size =
    ap (λ n. piece_at n (drop c.loop-line.at text)) (sym c.len.ensures)
    ∙ ap (piece_at c.len.result) (sym (c.behind.ensures ∙ ap (λ (t : List ℕ). drop c.loop-line.at t) c.sent_behind-sent.ensures)) ∙ c.in-Data.ensures in
    let fits = chunk_fits (length c.loop-line.body) (drop c.loop-line.at text) c.in-Data.line c.in-Data.size piece in
    let inside : c.args.start ≤ length c.loop-line.carry = omega (arith, c.requires.within, moves_longer c.loop-line.invariant.moves) in
    let size = sent_size c.args.start c.loop-line.carry inside in
    let all : c.loop-line.at + (c.in-Data.line + c.in-Data.size + 2) ≤ length text = omega (arith, fits.within, c.loop-line.invariant.reads.within, length-drop c.loop-line.at text) in
    omega (arith, all, size.1, ap length c.sent_behind-sent.ensures)

pub overflow_add-at-in-Data-2 : goal.overflow_add-at-in-Data-2
overflow_add-at-in-Data-2 g c =
    let text = sent_front c.args.start c.loop-line.carry in
    let piece : piece_at (length c.loop-line.body) (drop c.loop-line.at text) ≡ chunk c.in-Data.line c.in-Data.size =
    ap (λ n. piece_at n (drop c.loop-line.at text)) (sym c.len.ensures)
    ∙ ap (piece_at c.len.result) (sym (c.behind.ensures ∙ ap (λ (t : List ℕ). drop c.loop-line.at t) c.sent_behind-sent.ensures)) ∙ c.in-Data.ensures in
    let fits = chunk_fits (length c.loop-line.body) (drop c.loop-line.at text) c.in-Data.line c.in-Data.size piece in
    let inside : c.args.start ≤ length c.loop-line.carry = omega (arith, c.requires.within, moves_longer c.loop-line.invariant.moves) in
    let size = sent_size c.args.start c.loop-line.carry inside in
    let all : c.loop-line.at + (c.in-Data.line + c.in-Data.size + 2) ≤ length text = omega (arith, fits.within, c.loop-line.invariant.reads.within, length-drop c.loop-line.at text) in
    omega (arith, all, size.1, ap length c.sent_behind-sent.ensures)

pub slice_bounds-append-end : goal.slice_bounds-append-end
slice_bounds-append-end g c =
    let text = sent_front c.args.start c.loop-line.carry in
    let piece : piece_at (length c.loop-line.body) (drop c.loop-line.at text) ≡ chunk c.in-Data.line c.in-Data.size =
    ap (λ n. piece_at n (drop c.loop-line.at text)) (sym c.len.ensures)
    ∙ ap (piece_at c.len.result) (sym (c.behind.ensures ∙ ap (λ (t : List ℕ). drop c.loop-line.at t) c.sent_behind-sent.ensures)) ∙ c.in-Data.ensures in
    let fits = chunk_fits (length c.loop-line.body) (drop c.loop-line.at text) c.in-Data.line c.in-Data.size piece in
    let inside : c.args.start ≤ length c.loop-line.carry = omega (arith, c.requires.within, moves_longer c.loop-line.invariant.moves) in
    let size = sent_size c.args.start c.loop-line.carry inside in
    let all : c.loop-line.at + (c.in-Data.line + c.in-Data.size + 2) ≤ length text = omega (arith, fits.within, c.loop-line.invariant.reads.within, length-drop c.loop-line.at text) in
    omega (arith, all, size.1, ap length c.sent_behind-sent.ensures)

pub overflow_add-at-in-Data-4 : goal.overflow_add-at-in-Data-4
overflow_add-at-in-Data-4 g c =
    let text = sent_front c.args.start c.loop-line.carry in
    let piece : piece_at (length c.loop-line.body) (drop c.loop-line.at text) ≡ chunk c.in-Data.line c.in-Data.size =
    ap (λ n. piece_at n (drop c.loop-line.at text)) (sym c.len.ensures)
    ∙ ap (piece_at c.len.result) (sym (c.behind.ensures ∙ ap (λ (t : List ℕ). drop c.loop-line.at t) c.sent_behind-sent.ensures)) ∙ c.in-Data.ensures in
    let fits = chunk_fits (length c.loop-line.body) (drop c.loop-line.at text) c.in-Data.line c.in-Data.size piece in
    let inside : c.args.start ≤ length c.loop-line.carry = omega (arith, c.requires.within, moves_longer c.loop-line.invariant.moves) in
    let size = sent_size c.args.start c.loop-line.carry inside in
    let all : c.loop-line.at + (c.in-Data.line + c.in-Data.size + 2) ≤ length text = omega (arith, fits.within, c.loop-line.invariant.reads.within, length-drop c.loop-line.at text) in
    omega (arith, all, size.1, ap length c.sent_behind-sent.ensures)

pub overflow_add-at-in-Data-5 : goal.overflow_add-at-in-Data-5
overflow_add-at-in-Data-5 g c =
    let text = sent_front c.args.start c.loop-line.carry in
    let piece : piece_at (length c.loop-line.body) (drop c.loop-line.at text) ≡ chunk c.in-Data.line c.in-Data.size =
    ap (λ n. piece_at n (drop c.loop-line.at text)) (sym c.len.ensures)
    ∙ ap (piece_at c.len.result) (sym (c.behind.ensures ∙ ap (λ (t : List ℕ). drop c.loop-line.at t) c.sent_behind-sent.ensures)) ∙ c.in-Data.ensures in
    let fits = chunk_fits (length c.loop-line.body) (drop c.loop-line.at text) c.in-Data.line c.in-Data.size piece in
    let inside : c.args.start ≤ length c.loop-line.carry = omega (arith, c.requires.within, moves_longer c.loop-line.invariant.moves) in
    let size = sent_size c.args.start c.loop-line.carry inside in
    let all : c.loop-line.at + (c.in-Data.line + c.in-Data.size + 2) ≤ length text = omega (arith, fits.within, c.loop-line.invariant.reads.within, length-drop c.loop-line.at text) in
    omega (arith, all, size.1, ap length c.sent_behind-sent.ensures)

pub loop-line-smaller-in-Data : goal.loop-line-smaller-in-Data
loop-line-smaller-in-Data g c =
    let text = sent_front c.args.start c.loop-line.carry in
    let piece : piece_at (length c.loop-line.body) (drop c.loop-line.at text) ≡ chunk c.in-Data.line c.in-Data.size =
    ap (λ n. piece_at n (drop c.loop-line.at text)) (sym c.len.ensures)
    ∙ ap (piece_at c.len.result) (sym (c.behind.ensures ∙ ap (λ (t : List ℕ). drop c.loop-line.at t) c.sent_behind-sent.ensures)) ∙ c.in-Data.ensures in
    let fits = chunk_fits (length c.loop-line.body) (drop c.loop-line.at text) c.in-Data.line c.in-Data.size piece in
    let inside : c.args.start ≤ length c.loop-line.carry = omega (arith, c.requires.within, moves_longer c.loop-line.invariant.moves) in
    let size = sent_size c.args.start c.loop-line.carry inside in
    let all : c.loop-line.at + (c.in-Data.line + c.in-Data.size + 2) ≤ length text = omega (arith, fits.within, c.loop-line.invariant.reads.within, length-drop c.loop-line.at text) in
    omega (arith, all, size.1, fits.line_some)

pub loop-line-preserved-in-Data : goal.loop-line-preserved-in-Data
loop-line-preserved-in-Data g c =
    let text = sent_front c.args.start c.loop-line.carry in
    let piece : piece_at (length c.loop-line.body) (drop c.loop-line.at text) ≡ chunk c.in-Data.line c.in-Data.size =
    ap (λ n. piece_at n (drop c.loop-line.at text)) (sym c.len.ensures)
    ∙ ap (piece_at c.len.result) (sym (c.behind.ensures ∙ ap (λ (t : List ℕ). drop c.loop-line.at t) c.sent_behind-sent.ensures)) ∙ c.in-Data.ensures in
    record {
      moves = c.loop-line.invariant.moves;
      stopped = c.loop-line.invariant.stopped;
      reads = subst (λ (b : List ℕ). ReadsTo text b (c.loop-line.at + (c.in-Data.line + c.in-Data.size + 2))) (sym c.in_ok-append-in-Data.ensures.ok)
          (reads_chunk text c.loop-line.body c.loop-line.at c.in-Data.line c.in-Data.size _ c.loop-line.invariant.reads piece
          (ap (λ (t : List ℕ). take (c.loop-line.at + c.in-Data.line + c.in-Data.size - (c.loop-line.at + c.in-Data.line)) (drop (c.loop-line.at + c.in-Data.line) t)) c.sent_behind-sent.ensures
          ∙ ap (λ n. take n (drop (c.loop-line.at + c.in-Data.line) text)) (taken_size (c.loop-line.at + c.in-Data.line) c.in-Data.size)));
    }
  where
    taken_size : (a b : ℕ) → a + b - a ≡ b
    taken_size a b = omega arith

pub overflow_add-result : goal.overflow_add-result
overflow_add-result g c =
    let text = sent_front c.args.start c.loop-line.carry in
    let piece : piece_at (length c.loop-line.body) (drop c.loop-line.at text) ≡ last c.in-Last.line =
    ap (λ n. piece_at n (drop c.loop-line.at text)) (sym c.len.ensures)
    ∙ ap (piece_at c.len.result) (sym (c.behind.ensures ∙ ap (λ (t : List ℕ). drop c.loop-line.at t) c.sent_behind-sent.ensures)) ∙ c.in-Last.ensures in
    let inside : c.args.start ≤ length c.loop-line.carry = omega (arith, c.requires.within, moves_longer c.loop-line.invariant.moves) in
    omega (arith, last_fits (length c.loop-line.body) (drop c.loop-line.at text) c.in-Last.line piece, length-drop c.loop-line.at text, c.loop-line.invariant.reads.within, (sent_size c.args.start c.loop-line.carry inside).1)

pub returns-in-Last-clause-ends : goal.returns-in-Last-clause-ends
returns-in-Last-clause-ends g c =
    let text = sent_front c.args.start c.loop-line.carry in
    let piece : piece_at (length c.loop-line.body) (drop c.loop-line.at text) ≡ last c.in-Last.line =
    ap (λ n. piece_at n (drop c.loop-line.at text)) (sym c.len.ensures)
    ∙ ap (piece_at c.len.result) (sym (c.behind.ensures ∙ ap (λ (t : List ℕ). drop c.loop-line.at t) c.sent_behind-sent.ensures)) ∙ c.in-Last.ensures in
    reads_last text c.loop-line.body c.loop-line.at c.in-Last.line c.loop-line.invariant.reads piece

pub returns-in-Refused-clause-stops : goal.returns-in-Refused-clause-stops
returns-in-Refused-clause-stops g c =
    let text = sent_front c.args.start c.loop-line.carry in
    let piece : piece_at (length c.loop-line.body) (drop c.loop-line.at text) ≡ refused c.in-Refused.status =
    ap (λ n. piece_at n (drop c.loop-line.at text)) (sym c.len.ensures)
    ∙ ap (piece_at c.len.result) (sym (c.behind.ensures ∙ ap (λ (t : List ℕ). drop c.loop-line.at t) c.sent_behind-sent.ensures)) ∙ c.in-Refused.ensures in
    by_refusal c.in-Refused.status (reads_refused text c.loop-line.body c.loop-line.at c.in-Refused.status c.loop-line.invariant.reads piece) refl

pub returns-in_err-may_ask-clause-stops : goal.returns-in_err-may_ask-clause-stops
returns-in_err-may_ask-clause-stops g c =
    let p = err_from_is_err_and c.from_residual-in_err-may_ask.result c.from_residual-in_err-may_ask.ensures.1 in
    let text = sent_front c.args.start c.loop-line.carry in
    let piece : piece_at (length c.loop-line.body) (drop c.loop-line.at text) ≡ less =
    ap (λ n. piece_at n (drop c.loop-line.at text)) (sym c.len.ensures)
    ∙ ap (piece_at c.len.result) (sym (c.behind.ensures ∙ ap (λ (t : List ℕ). drop c.loop-line.at t) c.sent_behind-sent.ensures)) ∙ c.in-Cut.ensures.0 in
    rw p.1 (halts_stop c.loop-line.carry c.args.start _ _ _ _ c.loop-line.fetched p.0
    (reads_less text c.loop-line.body c.loop-line.at c.loop-line.invariant.reads piece)
    (stopped_at _ _ _ _ c.loop-line.fetched c.loop-line.invariant.stopped)
    (subst (Halts c.loop-line.carry c.loop-line.fetched (c.args.start + 33554432)) (sym p.2) c.in_err-may_ask.ensures.halts))

pub loop-line-preserved : goal.loop-line-preserved
loop-line-preserved g c =
    let text = sent_front c.args.start c.loop-line.carry in
    let inside : c.args.start ≤ length c.loop-line.carry = omega (arith, c.requires.within, moves_longer c.loop-line.invariant.moves) in
    let further = sent_grows c.args.start c.fetch_up_to-fetched.ensures.moves inside in
    record {
      moves = moves_then c.loop-line.invariant.moves c.fetch_up_to-fetched.ensures.moves;
      stopped = stopped_later c.loop-line.invariant.moves _ _ c.fetch_up_to-fetched.result c.fetch_up_to-fetched.ensures.stopped;
      reads = reads_grow text c.loop-line.body c.loop-line.at further.0 (sent_front c.args.start c.fetch_up_to-fetched.new.self) further.1 c.loop-line.invariant.reads;
    }

pub loop-line-smaller : goal.loop-line-smaller
loop-line-smaller g c =
    let text = sent_front c.args.start c.loop-line.carry in
    let inside : c.args.start ≤ length c.loop-line.carry = omega (arith, c.requires.within, moves_longer c.loop-line.invariant.moves) in
    let few = c.in_ok-may_ask.ensures.more.0 in
    let exact = sent_exact c.args.start c.loop-line.carry inside few in
    let behind_size : length c.behind.result.now ≡ length text - c.loop-line.at =
    ap length (c.behind.ensures ∙ ap (λ (t : List ℕ). drop c.loop-line.at t) c.sent_behind-sent.ensures) ∙ length-drop c.loop-line.at text in
    let wanted : length c.loop-line.carry < c.args.start + c.min.result =
    omega (arith, few, exact, behind_size, c.in-Cut.ensures.1, c.loop-line.invariant.reads.within, c.min.ensures, c.saturating_add.ensures) in
    fetch_smaller (c.args.start + 33554432) (length c.loop-line.carry) (length c.fetch_up_to-fetched.new.self) (c.args.start + c.min.result) (33554432 - c.loop-line.at)
    c.loop-line.fetched c.fetch_up_to-fetched.result few wanted c.in_ok-may_ask.ensures.more.1 c.fetch_up_to-fetched.ensures.enough (moves_longer c.fetch_up_to-fetched.ensures.moves)
