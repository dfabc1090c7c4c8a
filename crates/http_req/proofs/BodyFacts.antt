-- How a body in chunks is read, a piece at a time.
use Rattle.std.proofs.Common.{◌≡◌, ◌≢◌, ℕ, ◌+◌, ◌-◌, ◌<◌, ◌≤◌, inl, inr, Bool, true, false, List, [], ◌∷◌, ◌++◌, length, take, drop, Option, Result, Ok, Err, refl, sym, ap, ◌∙◌, subst, arith, append_assoc, append-nil, length-append, length-take, length-drop, drop-drop, take-append-drop}
use Rattle.std.specs.Prelude.{IfErr, OnOk, ◌*◌, nat_lt, nat_le, if◌then◌else◌}
use Rattle.std.proofs.lemmas.Bool.Decides.{nat_tests}
use Rattle.std.proofs.lemmas.List.{take-append-le, drop-append-le, take_all, drop_all}
use Rattle.http_req.specs.declared.request.Request.{Request}
use Rattle.http_req.specs.declared.request.Got.{Got}
use Rattle.http_req.specs.declared.carry.Stop.{Stop}
use Rattle.http_req.specs.declared.trailer.TrailerSpot.{TrailerSpot}
use Rattle.http_req.specs.declared.trailer.TrailerSpot.TheVariants as place
use Rattle.http_req.specs.declared.trailer.TrailerStep.{TrailerStep}
use Rattle.http_req.specs.declared.trailer.TrailerStep.TheVariants as move
use Rattle.http_req.specs.declared.trailer.Trailer.{Trailer}
use Rattle.http_req.specs.declared.trailer.Trailer.TheVariants as trailer
use Rattle.httparse.specs.Grammar.{print_request}
use Rattle.http_req.specs.Bodies.{EndsChunks, EndsTrailer, Halts, SentStops, by_refusal, by_limit, by_stop, by_memory}
use Rattle.http_req.specs.Chunks.{chunk, last, refused, less, piece_at, Sent, whole, rejected, partial, put, behind_trailer, trailing, ChunksAt, refuses, ends, trails, continues}
use Rattle.http_req.specs.Fetching.{Moves, Stopped}
use Rattle.http_req.specs.Fields.{is_chunked}
use Rattle.http_req.specs.Outcomes.{Outcome, Whole, Refused, ended, sent_front, with_chunks, Gets}
use Rattle.http_req.specs.Readings.{Passes, Stops}
use Rattle.http_req.specs.Requests.{shown}
use Rattle.http_req.specs.Trailers.{trailer_step, trailer_on, trailer_from}
use Rattle.http_req.proofs.ChunkFacts.{piece_more, chunk_fits, last_fits, trailer_more, trailer_within}
use Rattle.http_req.proofs.Fetches.{stopped_then, turns_left}
use Rattle.http_req.proofs.Receiving.{cut_stops, le_is, le_not, body_gets, head_within, sent_more, sent_size}
use Rattle.http_req.proofs.OutcomeFacts.{front_size}

-- So many bytes of the text are chunks of this body, whatever follows the text.
pub record ReadsTo (text body : List ℕ) (at : ℕ) : Type 0 where
  pub within : at ≤ length text
  pub goes : (more : List ℕ) (o : Sent) → ChunksAt (length body) (drop at (text ++ more)) o → ChunksAt 0 (text ++ more) (put body o)
  pub small : length body ≤ 8388608

put_nil : (o : Sent) → put [] o ≡ o
put_nil (whole body left) = refl
put_nil (rejected status) = refl
put_nil partial = refl

put_put : (a b : List ℕ) (o : Sent) → put a (put b o) ≡ put (a ++ b) o
put_put a b (whole body left) = ap (λ (t : List ℕ). whole t left) (sym (append_assoc a b body))
put_put a b (rejected status) = refl
put_put a b partial = refl

pub reads_none : (text : List ℕ) → ReadsTo text [] 0
reads_none text = record {
  within = omega arith;
  goes = λ more o c. subst (ChunksAt 0 (text ++ more)) (sym (put_nil o)) c;
  small = omega arith;
}

pub reads_grow : (text body : List ℕ) (at : ℕ) (extra longer : List ℕ) → longer ≡ text ++ extra → ReadsTo text body at → ReadsTo longer body at
reads_grow text body at extra longer is reads = record {
  within = omega (arith, reads.within, ap length is, length-append text extra);
  goes = λ more o c.
      let same : longer ++ more ≡ text ++ (extra ++ more) = ap (λ (t : List ℕ). t ++ more) is ∙ append_assoc text extra more in
      subst (λ (t : List ℕ). ChunksAt 0 t (put body o)) (sym same)
      (reads.goes (extra ++ more) o (subst (λ (t : List ℕ). ChunksAt (length body) (drop at t) o) same c));
  small = reads.small;
}

-- where a piece that is told stands, whatever follows
piece_there : (text more : List ℕ) (at sum : ℕ) → at ≤ length text → piece_at sum (drop at text) ≢ less
    → piece_at sum (drop at (text ++ more)) ≡ piece_at sum (drop at text)
piece_there text more at sum within told = elim (piece_more sum (drop at text) more) [
  | inl none ↦ absurd (told none)
  | inr same ↦ ap (piece_at sum) (drop-append-le at text more within) ∙ same
]

pub reads_chunk : (text body : List ℕ) (at k n : ℕ) (bytes : List ℕ) → ReadsTo text body at → piece_at (length body) (drop at text) ≡ chunk k n
    → bytes ≡ take n (drop (at + k) text) → ReadsTo text (body ++ bytes) (at + (k + n + 2))
reads_chunk text body at k n bytes reads is bytes_is =
    let fits = chunk_fits (length body) (drop at text) k n is in
    let inside : at + (k + n + 2) ≤ length text = omega (arith, fits.within, reads.within, length-drop at text) in
    let size : length bytes ≡ n = omega (arith, ap length bytes_is, length-take n (drop (at + k) text), length-drop (at + k) text, inside) in
    record {
      within = inside;
      goes = λ more o c.
          let there : piece_at (length body) (drop at (text ++ more)) ≡ chunk k n =
          piece_there text more at (length body) reads.within (λ none. cc) ∙ is in
          let behind : drop (at + (k + n + 2)) (text ++ more) ≡ drop (k + n + 2) (drop at (text ++ more)) = sym (drop-drop (k + n + 2) at (text ++ more)) in
          let sums : length (body ++ bytes) ≡ length body + n = omega (arith, length-append body bytes, size) in
          let rest : ChunksAt (length body + n) (drop (k + n + 2) (drop at (text ++ more))) o =
          subst (λ m. ChunksAt m (drop (k + n + 2) (drop at (text ++ more))) o) sums
          (subst (λ (t : List ℕ). ChunksAt (length (body ++ bytes)) t o) behind c) in
          let same : take n (drop k (drop at (text ++ more))) ≡ bytes =
          ap (take n) (drop-drop k at (text ++ more) ∙ drop-append-le (at + k) text more (omega (arith, inside)))
          ∙ take-append-le n (drop (at + k) text) more (omega (arith, length-drop (at + k) text, inside)) ∙ sym bytes_is in
          subst (ChunksAt 0 (text ++ more)) (ap (λ (d : List ℕ). put body (put d o)) same ∙ put_put body bytes o)
          (reads.goes more (put (take n (drop k (drop at (text ++ more)))) o) (continues k n o there rest));
      small = omega (arith, length-append body bytes, size, fits.sum_fits);
    }

pub reads_last : (text body : List ℕ) (at k : ℕ) → ReadsTo text body at → piece_at (length body) (drop at text) ≡ last k → EndsChunks text body (at + k)
reads_last text body at k reads is = record {
  within = omega (arith, last_fits (length body) (drop at text) k is, reads.within, length-drop at text);
  ends = λ more.
      let there : piece_at (length body) (drop at (text ++ more)) ≡ last k = piece_there text more at (length body) reads.within (λ none. cc) ∙ is in
      let behind : drop k (drop at (text ++ more)) ≡ drop (at + k) (text ++ more) = drop-drop k at (text ++ more) in
      subst (λ (t : List ℕ). ChunksAt 0 (text ++ more) (put body (trailing t))) behind
      (reads.goes more (trailing (drop k (drop at (text ++ more)))) (trails k there));
}

at_hand : (text body : List ℕ) (at : ℕ) (o : Sent) → ReadsTo text body at → ChunksAt (length body) (drop at text) o → ChunksAt 0 text (put body o)
at_hand text body at o reads c =
    subst (λ (t : List ℕ). ChunksAt 0 t (put body o)) (append-nil text)
    (reads.goes [] o (subst (λ (t : List ℕ). ChunksAt (length body) (drop at t) o) (sym (append-nil text)) c))

pub reads_refused : (text body : List ℕ) (at status : ℕ) → ReadsTo text body at → piece_at (length body) (drop at text) ≡ refused status
    → ChunksAt 0 text (rejected status)
reads_refused text body at status reads is = at_hand text body at (rejected status) reads (refuses status is)

pub reads_less : (text body : List ℕ) (at : ℕ) → ReadsTo text body at → piece_at (length body) (drop at text) ≡ less → ChunksAt 0 text partial
reads_less text body at reads is = at_hand text body at partial reads (ends is)

-- why no more is asked for
pub halts_stop : {Is : Sent → Type 0} (carry : List ℕ) (start : ℕ) (r : Option (List ℕ)) (f : ℕ) (s : Option (List ℕ)) (g : ℕ) (fetched : Result (Unit {0}) Stop) (answer : Got)
    → Is partial → ((how : Stop) → fetched ≡ Err how → Stopped r f how s g) → Halts carry fetched (start + 33554432) answer
    → SentStops Is carry start r f s g answer
halts_stop carry start r f s g fetched answer is stopped (inl (full, answer_is)) = by_limit is full answer_is
halts_stop carry start r f s g fetched answer is stopped (inr (few, (how, told, answer_is))) = by_stop how is few (stopped how told) answer_is

-- the same cause, seen from before what was read before
pub sent_stops_then : {Is : Sent → Type 0} {a b : List ℕ} {r s : Option (List ℕ)} {f g : ℕ} → Moves a r f b s g → (all : List ℕ) (start : ℕ) (t : Option (List ℕ)) (h : ℕ) (answer : Got)
    → SentStops Is all start s g t h answer → SentStops Is all start r f t h answer
sent_stops_then moves all start t h answer (by_refusal status is answer_is) = by_refusal status is answer_is
sent_stops_then moves all start t h answer (by_limit is full answer_is) = by_limit is full answer_is
sent_stops_then moves all start t h answer (by_stop how is few stopped answer_is) = by_stop how is few (stopped_then moves t h how stopped) answer_is
sent_stops_then moves all start t h answer (by_memory answer_is) = by_memory answer_is

-- a trailer that isn't good, behind chunks
pub trailer_stops : {r s : Option (List ℕ)} {f g : ℕ} (all text body : List ℕ) (begin start : ℕ) (answer : Got) → EndsChunks text body begin
    → SentStops (λ is. trailing (drop begin text) ≡ is) all start r f s g answer → SentStops (ChunksAt 0 text) all start r f s g answer
trailer_stops {r} {s} {f} {g} all text body begin start answer chunks stops = go stops
  where
    behind : (o : Sent) → trailing (drop begin text) ≡ o → ChunksAt 0 text (put body o)
    behind o is =
        subst (ChunksAt 0 text) (ap (put body) is)
        (subst (λ (t : List ℕ). ChunksAt 0 t (put body (trailing (drop begin t)))) (append-nil text) (chunks.ends []))

    go : SentStops (λ is. trailing (drop begin text) ≡ is) all start r f s g answer → SentStops (ChunksAt 0 text) all start r f s g answer
    go (by_refusal status is answer_is) = by_refusal status (behind (rejected status) is) answer_is
    go (by_limit is full answer_is) = by_limit (behind partial is) full answer_is
    go (by_stop how is few stopped answer_is) = by_stop how (behind partial is) few stopped answer_is
    go (by_memory answer_is) = by_memory answer_is

-- the answer where a body in chunks isn't read
pub sent_answer : (a b : List ℕ) (r s : Option (List ℕ)) (f g : ℕ) (peer : List ℕ) (start : ℕ) (request : Request) (answer : Got) → Passes a peer start request → Moves a r f b s g
    → is_chunked request.fields ≡ true → SentStops (ChunksAt 0 (sent_front start b)) b start r f s g answer → Stops b peer r f s g answer
sent_answer a b r s f g peer start request answer passes moves chunked stops = go stops
  where
    -- what is sent makes this outcome
    gets : (o : Sent) → ChunksAt 0 (sent_front start b) o → (outcome : Outcome) → outcome ≡ with_chunks b peer passes.head o → Gets b peer outcome
    gets o c outcome is =
        body_gets a b r s f g peer start request passes moves true chunked outcome
        (o, subst (λ n. ChunksAt 0 (sent_front n b) o) passes.start_is c, is)

    go : SentStops (ChunksAt 0 (sent_front start b)) b start r f s g answer → Stops b peer r f s g answer
    go (by_refusal status is answer_is) =
        subst (Stops b peer r f s g) (sym answer_is) (gets (rejected status) is (Refused status) refl)
    go (by_limit is full answer_is) =
        let long : nat_le (length (print_request passes.head) + 33554432) (length b) ≡ true = le_is _ _ (omega (arith, full, passes.start_is)) in
        subst (Stops b peer r f s g) (sym answer_is) (gets partial is (Refused 413) (ap (λ v. if v then Refused 413 else ended b) (sym long)))
    go (by_stop how is few stopped answer_is) =
        let short : nat_le (length (print_request passes.head) + 33554432) (length b) ≡ false = le_not _ _ (omega (arith, few, passes.start_is)) in
        subst (Stops b peer r f s g) (sym answer_is)
        (cut_stops b r f s g how peer (gets partial is (ended b) (ap (λ v. if v then Refused 413 else ended b) (sym short))) stopped)
    go (by_memory answer_is) = subst (Stops b peer r f s g) (sym answer_is) tt

-- ---- the trailer

-- of a cut trailer there are fewer bytes than it may have
pub trailer_cut_few : (t : List ℕ) (s : TrailerSpot) (at : ℕ) (to : TrailerSpot) → at < 16384 → trailer_from s at t ≡ trailer.Cut to → at + length t < 16384
trailer_cut_few [] s at to few e = omega (arith, few)
trailer_cut_few (b ∷ t) s at to few e = go (λ s at few e. trailer_cut_few t s at to few e) (trailer_step s b) e
  where
    fits : (next : TrailerSpot) → ((at + 1 < 16384) → trailer_from next (at + 1) t ≡ trailer.Cut to → (at + 1) + length t < 16384) → (v : Bool) → nat_lt (at + 1) 16384 ≡ v
        → (if v then trailer_from next (at + 1) t else trailer.Crowded) ≡ trailer.Cut to → at + length (b ∷ t) < 16384
    fits next later true small e = let less_is : at + 1 < 16384 = grind (arith, nat_tests) in omega (arith, later less_is e)
    fits next later false small e = absurd (cc)

    go : ((s : TrailerSpot) (at : ℕ) → at < 16384 → trailer_from s at t ≡ trailer.Cut to → at + length t < 16384) → (st : TrailerStep)
        → trailer_on st at (λ to. trailer_from to (at + 1) t) ≡ trailer.Cut to → at + length (b ∷ t) < 16384
    go later (move.Go next) e = fits next (later next (at + 1)) (nat_lt (at + 1) 16384) refl e
    go later move.End e = absurd (cc)
    go later move.Bad e = absurd (cc)

-- So many bytes of the text end in a trailer that is cut there, at this spot.
pub record CutAt (text : List ℕ) (begin at : ℕ) (spot : TrailerSpot) : Type 0 where
  pub ordered : begin ≤ at
  pub within : at ≤ length text
  pub is : trailer_from place.Begin 0 (drop begin (take at text)) ≡ trailer.Cut spot

drop_taken : (text : List ℕ) (n : ℕ) → n ≤ length text → drop n (take n text) ≡ []
drop_taken text n within = drop_all n (take n text) (omega (arith, length-take n text))

pub cut_none : (text : List ℕ) (begin : ℕ) → begin ≤ length text → CutAt text begin begin place.Begin
cut_none text begin within = record {
  ordered = omega arith;
  within = within;
  is = ap (trailer_from place.Begin 0) (drop_taken text begin within);
}

pub cut_few : (text : List ℕ) (begin at : ℕ) (spot : TrailerSpot) → CutAt text begin at spot → at - begin < 16384
cut_few text begin at spot cut =
    omega (arith, trailer_cut_few (drop begin (take at text)) place.Begin 0 spot (omega arith) cut.is, length-drop begin (take at text), length-take at text, cut.within, cut.ordered)

pub cut_grow : (text : List ℕ) (begin at : ℕ) (spot : TrailerSpot) (extra longer : List ℕ) → longer ≡ text ++ extra → CutAt text begin at spot → CutAt longer begin at spot
cut_grow text begin at spot extra longer is cut = record {
  ordered = cut.ordered;
  within = omega (arith, cut.within, ap length is, length-append text extra);
  is = ap (λ (t : List ℕ). trailer_from place.Begin 0 (drop begin t)) (ap (take at) is ∙ take-append-le at text extra cut.within) ∙ cut.is;
}

-- the whole trailer goes on from where it was cut
pub cut_goes : (text : List ℕ) (begin at : ℕ) (spot : TrailerSpot) → CutAt text begin at spot
    → trailer_from place.Begin 0 (drop begin text) ≡ trailer_from spot (at - begin) (drop at text)
cut_goes text begin at spot cut =
    let front = drop begin (take at text) in
    let short : begin ≤ length (take at text) = omega (arith, cut.ordered, cut.within, length-take at text) in
    let parts : drop begin text ≡ front ++ drop at text =
    ap (drop begin) (sym (take-append-drop at text)) ∙ drop-append-le begin (take at text) (drop at text) short in
    let size : 0 + length front ≡ at - begin = omega (arith, cut.ordered, cut.within, length-drop begin (take at text), length-take at text) in
    ap (trailer_from place.Begin 0) parts ∙ elim (trailer_more front (drop at text) place.Begin 0) [
      | inl w ↦
          let same : w.0 ≡ spot = cut_spot w.0 spot (sym w.1 ∙ cut.is) in
          w.2 ∙ ap (λ n. trailer_from w.0 n (drop at text)) size ∙ ap (λ s. trailer_from s (at - begin) (drop at text)) same
      | inr w ↦ absurd (w.0 spot cut.is)
    ]
  where
    cut_spot : (a b : TrailerSpot) → trailer.Cut a ≡ trailer.Cut b → a ≡ b
    cut_spot a b e = cc

-- cut again, at the end of the text
pub cut_again : (text : List ℕ) (begin at : ℕ) (spot to : TrailerSpot) → CutAt text begin at spot → trailer_from spot (at - begin) (drop at text) ≡ trailer.Cut to
    → (end : ℕ) → end ≡ length text → CutAt text begin end to
cut_again text begin at spot to cut e end end_is = record {
  ordered = omega (arith, cut.ordered, cut.within, end_is);
  within = omega (arith, end_is);
  is = ap (λ (t : List ℕ). trailer_from place.Begin 0 (drop begin t)) (take_all end text (omega (arith, end_is))) ∙ cut_goes text begin at spot cut ∙ e;
}

-- what a trailer makes of the whole
pub trailing_is : (text : List ℕ) (begin at : ℕ) (spot : TrailerSpot) (found : Trailer) → CutAt text begin at spot → found ≡ trailer_from spot (at - begin) (drop at text)
    → trailing (drop begin text) ≡ behind_trailer (length (drop begin text)) found
trailing_is text begin at spot found cut is = ap (behind_trailer (length (drop begin text))) (cut_goes text begin at spot cut ∙ sym is)

-- ---- the whole body

-- chunks and a trailer make a request, which takes no more bytes than there are
pub chunks_whole : (a b : List ℕ) (r s : Option (List ℕ)) (f g : ℕ) (peer : List ℕ) (start : ℕ) (request full : Request) (body : List ℕ) (begin size : ℕ)
    → Passes a peer start request → Moves a r f b s g → is_chunked request.fields ≡ true → start ≤ length b
    → EndsChunks (sent_front start b) body begin → EndsTrailer (sent_front start b) begin size → full ≡ record request { body = body }
    → Gets b peer (Whole full (start + size)) × (start + size ≤ length b)
chunks_whole a b r s f g peer start request full body begin size passes moves chunked inside chunks (taken, trailer_is, size_is) full_is =
    let text = sent_front start b in
    let within = trailer_within (drop begin text) place.Begin 0 taken trailer_is in
    let left = length (drop begin text) - taken in
    let behind : trailing (drop begin text) ≡ whole [] left = ap (behind_trailer (length (drop begin text))) trailer_is in
    let sent : ChunksAt 0 text (whole body left) =
    subst (ChunksAt 0 text) (ap (put body) behind ∙ ap (λ (t : List ℕ). whole t left) (append-nil body))
    (subst (λ (t : List ℕ). ChunksAt 0 t (put body (trailing (drop begin t)))) (append-nil text) (chunks.ends [])) in
    let sizes : length text - left ≡ size = omega (arith, size_is, within.1, length-drop begin text, chunks.within) in
    let head_size : length (print_request passes.head) ≡ start = sym passes.start_is in
    let fronts : length (sent_front (length (print_request passes.head)) b) - left ≡ size = ap (λ n. length (sent_front n b) - left) head_size ∙ sizes in
    let used : start + size ≡ length (print_request passes.head) + (length (sent_front (length (print_request passes.head)) b) - left) =
    omega (arith, fronts, head_size) in
    let shows : full ≡ shown passes.head body peer = full_is ∙ ap (λ (q : Request). record q { body = body }) passes.request_is in (
      body_gets a b r s f g peer start request passes moves true chunked (Whole full (start + size)) (
        whole body left,
        subst (λ n. ChunksAt 0 (sent_front n b) (whole body left)) passes.start_is sent,
        ap (λ (q : Request). Whole q (start + size)) shows ∙ ap (λ n. Whole (shown passes.head body peer) n) used,
      ),
      omega (arith, sizes, (sent_size start b inside).0),
    )

-- ---- more bytes

pub stopped_later : {a b : List ℕ} {r s : Option (List ℕ)} {f g : ℕ} → Moves a r f b s g → (t : Option (List ℕ)) (h : ℕ) (fetched : Result (Unit {0}) Stop)
    → IfErr fetched (λ stop. Stopped s g stop t h) → IfErr fetched (λ stop. Stopped r f stop t h)
stopped_later moves t h (Ok done) stopped = stopped
stopped_later moves t h (Err how) stopped = stopped_then moves t h how stopped

pub stopped_at : (r : Option (List ℕ)) (f : ℕ) (s : Option (List ℕ)) (g : ℕ) (fetched : Result (Unit {0}) Stop) → IfErr fetched (λ stop. Stopped r f stop s g)
    → (how : Stop) → fetched ≡ Err how → Stopped r f how s g
stopped_at r f s g fetched stopped how is = subst (λ x. IfErr x (λ stop. Stopped r f stop s g)) is stopped

-- what is sent grows by what is fetched
pub sent_grows : {a b : List ℕ} {r s : Option (List ℕ)} {f g : ℕ} (start : ℕ) → Moves a r f b s g → start ≤ length a
    → (extra : List ℕ) × (sent_front start b ≡ sent_front start a ++ extra)
sent_grows {a} start moves within =
    let further = sent_more start a moves.given within in
    (further.0, ap (sent_front start) moves.kept ∙ further.1)

pub chunks_grow : (text body : List ℕ) (begin : ℕ) (extra longer : List ℕ) → longer ≡ text ++ extra → EndsChunks text body begin → EndsChunks longer body begin
chunks_grow text body begin extra longer is chunks = record {
  within = omega (arith, chunks.within, ap length is, length-append text extra);
  ends = λ more.
      let same : longer ++ more ≡ text ++ (extra ++ more) = ap (λ (t : List ℕ). t ++ more) is ∙ append_assoc text extra more in
      subst (λ (t : List ℕ). ChunksAt 0 t (put body (trailing (drop begin t)))) (sym same) (chunks.ends (extra ++ more));
}

-- a head that passes stands in the front of the input
pub start_within : (input peer : List ℕ) (start : ℕ) (request : Request) → Passes input peer start request → (start ≤ length input) × (start ≤ 16384)
start_within input peer start request passes = (
  omega (arith, passes.start_is, head_within input passes.head passes.rest passes.reads),
  omega (arith, passes.start_is, ap length passes.reads.1, length-append (print_request passes.head) passes.rest, front_size input),
)

-- how much is sent
pub trailer_size : (text : List ℕ) (begin size : ℕ) → begin ≤ length text → EndsTrailer text begin size → size ≤ length text
trailer_size text begin size within (taken, trailer_is, size_is) =
    omega (arith, within, size_is, (trailer_within (drop begin text) place.Begin 0 taken trailer_is).1, length-drop begin text)

-- a fetch makes the rest of a reading smaller: it brings bytes, or is the last one
pub fetch_smaller : (most a b wanted rest : ℕ) (old new : Result (Unit {0}) Stop) → a < most → a < wanted → old ≡ Ok (record {}) → OnOk new (wanted ≤ b) → a ≤ b
    → 2 * (most - b) + turns_left new + rest < 2 * (most - a) + turns_left old + rest
fetch_smaller most a b wanted rest old (Ok done) few less_is was enough longer = omega (arith, few, less_is, ap turns_left was, enough)
fetch_smaller most a b wanted rest old (Err how) few less_is was enough longer = omega (arith, few, ap turns_left was, longer)
