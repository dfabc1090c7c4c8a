-- From what is found in the bytes that came to what is answered.
use Rattle.std.proofs.Common.{◌≡◌, ℕ, ◌+◌, ◌-◌, ◌<◌, ◌≤◌, ◌⊎◌, inl, inr, Bool, true, false, List, [], ◌∷◌, ◌++◌, length, take, drop, map, Option, Some, None, Result, Ok, Err, refl, sym, ap, ◌∙◌, subst, arith, append_assoc, append-nil, length-append, length-take, length-drop, min}
use Rattle.std.proofs.lemmas.List.{take-append-le, drop-append-le, take_all, take_min}
use Rattle.std.proofs.Math.Seq.{take-append-add}
use Rattle.std.specs.Prelude.{nat_le, if◌then◌else◌, unwrap_or}
use Rattle.std.proofs.lemmas.Bool.Decides.{nat_tests}
use Rattle.httparse.specs.Grammar.{RequestHead, print_request, ReadsRequest, HasNoRequest}
use Rattle.httparse.proofs.GrammarLemmas.{ReadsRequest-append}
use Rattle.http_req.specs.declared.request.Request.{Request}
use Rattle.http_req.specs.declared.request.Got.{Got}
use Rattle.http_req.specs.declared.request.Got.TheVariants as got
use Rattle.http_req.specs.declared.carry.Stop.{Stop}
use Rattle.http_req.specs.declared.carry.Stop.TheVariants as stop
use Rattle.http_req.specs.Fetching.{Moves, Stopped}
use Rattle.http_req.specs.Chunks.{Sent, whole, rejected, partial, ChunksAt}
use Rattle.http_req.specs.Fields.{body_length, is_chunked}
use Rattle.http_req.specs.Heads.{front, IsMalformed}
use Rattle.http_req.specs.Outcomes.{Outcome, Whole, Refused, ended, sent_front, with_body, with_chunks, BodyIs, CheckedIs, Gets, malformed, oversized, cut, headed}
use Rattle.http_req.specs.Readings.{cut_answer, Passes, Fails, Stops, Receives, Received}
use Rattle.httparse.specs.declared.spans.HeaderSpan.{HeaderSpan}
use Rattle.httparse.specs.declared.spans.RequestSpans.{RequestSpans}
use Rattle.httparse.specs.Spans.{IsRequestAt, header_bytes, name_and_value}
use Rattle.http_req.specs.Fronts.{HeadStands}
use Rattle.http_req.specs.Requests.{shown, refusal}
use Rattle.http_req.proofs.ChunkFacts.{chunks_more, chunks_left}
use Rattle.http_req.proofs.CheckFacts.{too_many, checks_passed}
use Rattle.std.proofs.lemmas.List.{length-map}
use Rattle.http_req.proofs.HeadFacts.{two_fronts}
use Rattle.http_req.proofs.OutcomeFacts.{front_size}
use Rattle.http_req.proofs.FieldFacts.{length_told}
use Rattle.http_req.proofs.Fetches.{gives_then, stopped_then}

pub cut_stops : (carry : List ℕ) (r : Option (List ℕ)) (f : ℕ) (s : Option (List ℕ)) (g : ℕ) (how : Stop) (peer : List ℕ)
    → Gets carry peer (ended carry) → Stopped r f how s g → Stops carry peer r f s g (cut_answer carry how)
cut_stops [] r f s g stop.End peer gets stopped = (gets, stopped)
cut_stops (b ∷ carry) r f s g stop.End peer gets stopped = (gets, stopped)
cut_stops [] r f s g stop.Fault peer gets stopped = (gets, stopped)
cut_stops (b ∷ carry) r f s g stop.Fault peer gets stopped = (gets, stopped)
cut_stops [] r f s g stop.NoMemory peer gets stopped = tt
cut_stops (b ∷ carry) r f s g stop.NoMemory peer gets stopped = tt

-- the answer of a call that took no request
pub received_no_request : (a : List ℕ) (r : Option (List ℕ)) (f : ℕ) (b : List ℕ) (s : Option (List ℕ)) (g : ℕ) (peer : List ℕ) (answer : Got) → Moves a r f b s g
    → Stops b peer r f s g answer → Received a r f peer (Err answer) b s g
received_no_request a r f b s g peer answer moves stops = record {
  given = moves.given;
  gives = moves.gives;
  counts = moves.counts;
  receives = (subst (λ (all : List ℕ). Stops all peer r f s g answer) moves.kept stops, moves.kept);
}

pub received_request : (a : List ℕ) (r : Option (List ℕ)) (f : ℕ) (b : List ℕ) (s : Option (List ℕ)) (g : ℕ) (peer : List ℕ) (request : Request) (used : ℕ) (left : List ℕ) → Moves a r f b s g
    → Gets b peer (Whole request used) → left ≡ drop used b → Received a r f peer (Ok request) left s g
received_request a r f b s g peer request used left moves gets is = record {
  given = moves.given;
  gives = moves.gives;
  counts = moves.counts;
  receives = (
    used,
    subst (λ (all : List ℕ). Gets all peer (Whole request used)) moves.kept gets,
    is ∙ ap (drop used) moves.kept,
  );
}

-- ---- more bytes

le_or_less : (a b : ℕ) → (a ≤ b) ⊎ (b < a)
le_or_less a b = go (nat_le a b) refl
  where
    go : (c : Bool) → nat_le a b ≡ c → (a ≤ b) ⊎ (b < a)
    go true is = inl (grind (arith, nat_tests))
    go false is = inr (grind (arith, nat_tests))

-- what the first bytes of one list and then another are
take-append : (n : ℕ) (xs ys : List ℕ) → take n (xs ++ ys) ≡ take n xs ++ take (n - length xs) ys
take-append n xs ys =
    elim (le_or_less n (length xs)) [
      | inl short ↦
          let none : n - length xs ≡ 0 = omega arith in
          take-append-le n xs ys short ∙ rw none (sym (append-nil (take n xs)))
      | inr long ↦
          let size : length xs + (n - length xs) ≡ n = omega arith in
          let all : take n xs ≡ xs = take_all n xs (omega arith) in
          rw all (subst (λ k. take k (xs ++ ys) ≡ xs ++ take (n - length xs) ys) size (take-append-add xs ys (n - length xs)))
    ]

-- the front of more bytes is that of the first, and then some
pub front_more : (input more : List ℕ) → (extra : List ℕ) × (front (input ++ more) ≡ front input ++ extra)
unfolding front
front_more input more = (take (16384 - length input) more, take-append 16384 input more)

pub front_same : (input more : List ℕ) → 16384 ≤ length input → front (input ++ more) ≡ front input
unfolding front
front_same input more full = take-append-le 16384 input more full

pub head_more : (input more : List ℕ) (head : RequestHead) (rest : List ℕ) → ReadsRequest (front input) head rest
    → (left : List ℕ) × ReadsRequest (front (input ++ more)) head left
head_more input more head rest reads =
    let further = front_more input more in
    (rest ++ further.0, subst (λ (t : List ℕ). ReadsRequest t head (rest ++ further.0)) (sym further.1) (ReadsRequest-append (front input) head rest further.0 reads))

-- what an input is stays so whatever follows, if it is a whole request or refused
pub record IsDecided (outcome : Outcome) : Type 0 where
  pub not_ended : (input : List ℕ) → ¬ (outcome ≡ ended input)

pub whole_decided : (request : Request) (used : ℕ) → IsDecided (Whole request used)
whole_decided request used = record { not_ended = no }
  where
    no : (input : List ℕ) → ¬ (Whole request used ≡ ended input)
    no [] e = cc
    no (b ∷ input) e = cc

pub refused_decided : (status : ℕ) → IsDecided (Refused status)
refused_decided status = record { not_ended = no }
  where
    no : (input : List ℕ) → ¬ (Refused status ≡ ended input)
    no [] e = cc
    no (b ∷ input) e = cc

malformed_more : (text extra : List ℕ) → HasNoRequest text → IsMalformed text → HasNoRequest (text ++ extra) × IsMalformed (text ++ extra)
malformed_more text extra none wrong = (
  λ head rest reads.
      elim (two_fronts (print_request head) rest (wrong.before ++ 10 ∷ []) (wrong.after ++ extra)
      (sym reads.1 ∙ ap (λ (t : List ℕ). t ++ extra) wrong.parts ∙ append_assoc wrong.before (10 ∷ wrong.after) extra ∙ sym (append_assoc wrong.before (10 ∷ []) (wrong.after ++ extra)))) [
        | inl w ↦ wrong.never w.0 head (reads.0, sym w.1 ∙ sym (append-nil (print_request head)))
        | inr w ↦ none head (w.0 ++ wrong.after) (reads.0, wrong.parts ∙ sym (append_assoc wrong.before (10 ∷ []) wrong.after) ∙ ap (λ (t : List ℕ). t ++ wrong.after) w.1 ∙ append_assoc (print_request head) w.0 wrong.after)
      ],
  record {
    before = wrong.before;
    after = wrong.after ++ extra;
    parts = ap (λ (t : List ℕ). t ++ extra) wrong.parts ∙ append_assoc wrong.before (10 ∷ wrong.after) extra;
    never = wrong.never;
  },
)

body_more : (input more : List ℕ) (start size : ℕ) → start + size ≤ length input
    → take size (drop start (input ++ more)) ≡ take size (drop start input)
body_more input more start size within =
    let first : start ≤ length input = omega arith in
    rw (drop-append-le start input more first) (take-append-le size (drop start input) more (omega (arith, length-drop start input)))

pub le_is : (a b : ℕ) → a ≤ b → nat_le a b ≡ true
le_is a b most = grind (arith, nat_tests)

pub le_not : (a b : ℕ) → b < a → nat_le a b ≡ false
le_not a b less = grind (arith, nat_tests)

le_true : (a b : ℕ) → nat_le a b ≡ true → a ≤ b
le_true a b e = grind (arith, nat_tests)

-- a body that is whole
pub whole_body : (input peer : List ℕ) (head : RequestHead) (size : ℕ) → length (print_request head) + size ≤ length input
    → with_body input peer head size ≡ Whole (shown head (take size (drop (length (print_request head)) input)) peer) (length (print_request head) + size)
whole_body input peer head size within = rw (le_is (length (print_request head) + size) (length input) within) refl

pub short_body : (input peer : List ℕ) (head : RequestHead) (size : ℕ) → length input < length (print_request head) + size
    → with_body input peer head size ≡ ended input
short_body input peer head size less = rw (le_not (length (print_request head) + size) (length input) less) refl

-- what is decided of a body stands, also with more bytes
with_body_more : (input more peer : List ℕ) (head : RequestHead) (size : ℕ) (outcome : Outcome) → IsDecided outcome → outcome ≡ with_body input peer head size
    → (outcome ≡ with_body (input ++ more) peer head size) × (length (print_request head) + size ≤ length input)
with_body_more input more peer head size outcome decided is = go (nat_le (length (print_request head) + size) (length input)) refl is
  where
    start : ℕ
    start = length (print_request head)

    go : (b : Bool) → nat_le (length (print_request head) + size) (length input) ≡ b
        → outcome ≡ (if b then Whole (shown head (take size (drop (length (print_request head)) input)) peer) (length (print_request head) + size) else ended input)
        → (outcome ≡ with_body (input ++ more) peer head size) × (length (print_request head) + size ≤ length input)
    go true le is =
        let within = le_true (length (print_request head) + size) (length input) le in (
          is
              ∙ ap (λ (body : List ℕ). Whole (shown head body peer) (length (print_request head) + size)) (sym (body_more input more (length (print_request head)) size within))
              ∙ sym (whole_body (input ++ more) peer head size (omega (arith, within, length-append input more))),
          within,
        )
    go false le is = absurd (decided.not_ended input is)

-- a head stands within the input
pub head_within : (input : List ℕ) (head : RequestHead) (rest : List ℕ) → ReadsRequest (front input) head rest → length (print_request head) ≤ length input
unfolding front
head_within input head rest reads =
    omega (arith, ap length reads.1, length-append (print_request head) rest, length-take 16384 input)

-- more bytes are sent behind those that were
pub sent_more : (start : ℕ) (input more : List ℕ) → start ≤ length input
    → (extra : List ℕ) × (sent_front start (input ++ more) ≡ sent_front start input ++ extra)
unfolding sent_front
sent_more start input more within = (
  take (33554432 - length (drop start input)) more,
  ap (take 33554432) (drop-append-le start input more within) ∙ take-append 33554432 (drop start input) more,
)

pub sent_same : (start : ℕ) (input more : List ℕ) → start + 33554432 ≤ length input → sent_front start (input ++ more) ≡ sent_front start input
unfolding sent_front
sent_same start input more full =
    ap (take 33554432) (drop-append-le start input more (omega (arith, full))) ∙ take-append-le 33554432 (drop start input) more (omega (arith, full, length-drop start input))

pub sent_size : (start : ℕ) (input : List ℕ) → start ≤ length input → (start + length (sent_front start input) ≤ length input) × (length (sent_front start input) ≤ 33554432)
unfolding sent_front
sent_size start input within =
    (omega (arith, within, length-take 33554432 (drop start input), length-drop start input), omega (arith, length-take 33554432 (drop start input)))

-- what is decided of a body in chunks stands
chunks_body_more : (input more peer : List ℕ) (head : RequestHead) (outcome : Outcome) → length (print_request head) ≤ length input → IsDecided outcome
    → (sent : Sent) → ChunksAt 0 (sent_front (length (print_request head)) input) sent → outcome ≡ with_chunks input peer head sent
    → BodyIs true (input ++ more) peer head outcome
chunks_body_more input more peer head outcome within decided (whole body left) chunks is =
    let further = sent_more (length (print_request head)) input more within in
    let there = chunks_more 0 (sent_front (length (print_request head)) input) further.0 (whole body left) (λ e. cc) chunks in
    let few = chunks_left 0 (sent_front (length (print_request head)) input) (whole body left) chunks body left refl in
    let sizes : length (sent_front (length (print_request head)) (input ++ more)) - (left + length further.0) ≡ length (sent_front (length (print_request head)) input) - left =
    omega (arith, few, ap length further.1, length-append (sent_front (length (print_request head)) input) further.0) in (
      whole body (left + length further.0),
      subst (λ (t : List ℕ). ChunksAt 0 t (whole body (left + length further.0))) (sym further.1) there,
      is ∙ ap (λ n. Whole (shown head body peer) (length (print_request head) + n)) (sym sizes),
    )
chunks_body_more input more peer head outcome within decided (rejected status) chunks is =
    let further = sent_more (length (print_request head)) input more within in
    let there = chunks_more 0 (sent_front (length (print_request head)) input) further.0 (rejected status) (λ e. cc) chunks in
    (rejected status, subst (λ (t : List ℕ). ChunksAt 0 t (rejected status)) (sym further.1) there, is)
chunks_body_more input more peer head outcome within decided partial chunks is = go (nat_le (length (print_request head) + 33554432) (length input)) refl is
  where
    go : (full : Bool) → nat_le (length (print_request head) + 33554432) (length input) ≡ full → outcome ≡ (if full then Refused 413 else ended input)
        → BodyIs true (input ++ more) peer head outcome
    go true full is =
        let long : length (print_request head) + 33554432 ≤ length input = le_true (length (print_request head) + 33554432) (length input) full in
        let still : nat_le (length (print_request head) + 33554432) (length (input ++ more)) ≡ true =
        le_is (length (print_request head) + 33554432) (length (input ++ more)) (omega (arith, long, length-append input more)) in (
          partial,
          subst (λ (t : List ℕ). ChunksAt 0 t partial) (sym (sent_same (length (print_request head)) input more long)) chunks,
          is ∙ ap (λ v. if v then Refused 413 else ended (input ++ more)) (sym still),
        )
    go false full is = absurd (decided.not_ended input is)

body_is_more : (chunked : Bool) (input more peer : List ℕ) (head : RequestHead) (outcome : Outcome) → length (print_request head) ≤ length input → IsDecided outcome
    → BodyIs chunked input peer head outcome → BodyIs chunked (input ++ more) peer head outcome
body_is_more true input more peer head outcome within decided (sent, chunks, is) = chunks_body_more input more peer head outcome within decided sent chunks is
body_is_more false input more peer head outcome within decided is = (with_body_more input more peer head _ outcome decided is).0

checked_more : (input more peer : List ℕ) (head : RequestHead) (refused : Option ℕ) (outcome : Outcome) → length (print_request head) ≤ length input → IsDecided outcome
    → CheckedIs refused input peer head outcome → CheckedIs refused (input ++ more) peer head outcome
checked_more input more peer head (Some status) outcome within decided is = is
checked_more input more peer head None outcome within decided is =
    body_is_more (is_chunked (shown head [] peer).fields) input more peer head outcome within decided is

pub gets_more : (input more peer : List ℕ) (outcome : Outcome) → IsDecided outcome → Gets input peer outcome → Gets (input ++ more) peer outcome
gets_more input more peer outcome decided (malformed none wrong is) =
    let further = front_more input more in
    let both = malformed_more (front input) further.0 none wrong in
    malformed (subst HasNoRequest (sym further.1) both.0) (subst IsMalformed (sym further.1) both.1) is
gets_more input more peer outcome decided (oversized none fine many is) =
    let same = front_same input more many in
    oversized (subst HasNoRequest (sym same) none) (subst (λ (t : List ℕ). ¬ (IsMalformed t)) (sym same) fine) (omega (arith, many, length-append input more)) is
gets_more input more peer outcome decided (cut none fine few is) = absurd (decided.not_ended input is)
gets_more input more peer outcome decided (headed head rest reads is) =
    let there = head_more input more head rest reads in
    headed head there.0 there.1 (checked_more input more peer head (refusal (shown head [] peer)) outcome (head_within input head rest reads) decided is)

whole_body_within : (chunked : Bool) (input peer : List ℕ) (head : RequestHead) (request : Request) (used : ℕ) → length (print_request head) ≤ length input
    → BodyIs chunked input peer head (Whole request used) → used ≤ length input
whole_body_within true input peer head request used within (whole body left, chunks, is) =
    let used_is : used ≡ length (print_request head) + (length (sent_front (length (print_request head)) input) - left) = cc in
    omega (arith, used_is, (sent_size (length (print_request head)) input within).0)
whole_body_within true input peer head request used within (rejected status, chunks, is) = absurd (cc)
whole_body_within true input peer head request used within (partial, chunks, is) = absurd (go (nat_le (length (print_request head) + 33554432) (length input)) is)
  where
    go : (full : Bool) → Whole request used ≡ (if full then Refused 413 else ended input) → ⊥
    go true is = cc
    go false is = (whole_decided request used).not_ended input is
whole_body_within false input peer head request used within is =
    let size = body_length (shown head [] peer).fields in
    let inside = (with_body_more input [] peer head size (Whole request used) (whole_decided request used) is).1 in
    let same : Whole request used ≡ Whole (shown head (take size (drop (length (print_request head)) input)) peer) (length (print_request head) + size) = is ∙ whole_body input peer head size inside in
    let used_is : used ≡ length (print_request head) + size = cc in
    omega (arith, inside, used_is)

whole_checked : (input peer : List ℕ) (head : RequestHead) (refused : Option ℕ) (request : Request) (used : ℕ) → length (print_request head) ≤ length input
    → CheckedIs refused input peer head (Whole request used) → used ≤ length input
whole_checked input peer head (Some status) request used within is = absurd (cc)
whole_checked input peer head None request used within is =
    whole_body_within (is_chunked (shown head [] peer).fields) input peer head request used within is

-- a request takes no more bytes than there are
pub whole_within : (input peer : List ℕ) (request : Request) (used : ℕ) → Gets input peer (Whole request used) → used ≤ length input
whole_within input peer request used (malformed none wrong is) = absurd (cc)
whole_within input peer request used (oversized none fine many is) = absurd (cc)
whole_within input peer request used (cut none fine few is) = absurd ((whole_decided request used).not_ended input is)
whole_within input peer request used (headed head rest reads is) =
    whole_checked input peer head (refusal (shown head [] peer)) request used (head_within input head rest reads) is

-- ---- the head's checks

-- how many fields there are
count_is : (input : List ℕ) (spans : List HeaderSpan) (head : RequestSpans) → (stands : HeadStands (front input) spans head)
    → length (map name_and_value stands.of.0.fields) ≡ head.headers
count_is input spans head stands =
    ap length (sym stands.of.1.fields) ∙ length-map (take head.headers spans) (header_bytes (front input)) ∙ length-take head.headers spans
    ∙ min_left head.headers (length spans) stands.within.section.count_fits
  where
    min_left : (a b : ℕ) → a ≤ b → min a b ≡ a
    min_left a b most = omega arith

-- more fields than a head may have
pub crowded : (input : List ℕ) (spans : List HeaderSpan) (head : RequestSpans) → HeadStands (front input) spans head → 100 < head.headers
    → (peer : List ℕ) → Gets input peer (Refused 431)
crowded input spans head stands many peer =
    headed stands.of.0 (drop head.len (front input)) stands.of.1.reads
    (subst (λ r. CheckedIs r input peer stands.of.0 (Refused 431)) (too_many (shown stands.of.0 [] peer) (omega (arith, many, count_is input spans head stands))) refl)

pub few_shown : (input : List ℕ) (spans : List HeaderSpan) (head : RequestSpans) (peer : List ℕ) (request : Request) → HeadStands (front input) spans head
    → ((tree : RequestHead) → IsRequestAt (front input) spans head tree → request ≡ shown tree [] peer) → head.headers ≤ 100
    → length request.fields ≤ 100
few_shown input spans head peer request stands shows few =
    let is : length request.fields ≡ length (map name_and_value stands.of.0.fields) = ap (λ (q : Request). length q.fields) (shows stands.of.0 stands.of.1) in
    omega (arith, is, few, count_is input spans head stands)

-- the front, as a slice
pub front_slice : (input : List ℕ) (n : ℕ) → n ≡ min 16384 (length input) → take n input ≡ front input
unfolding front
front_slice input n is = ap (λ k. take k input) is ∙ take_min 16384 input

pub passes_head : (input : List ℕ) (spans : List HeaderSpan) (head : RequestSpans) (peer : List ℕ) (request : Request) → HeadStands (front input) spans head
    → ((tree : RequestHead) → IsRequestAt (front input) spans head tree → request ≡ shown tree [] peer) → None ≡ refusal request
    → Passes input peer head.len request
passes_head input spans head peer request stands shows none =
    let is = shows stands.of.0 stands.of.1 in
    record {
      head = stands.of.0;
      rest = drop head.len (front input);
      reads = stands.of.1.reads;
      start_is = stands.of.1.len;
      request_is = is;
      passes = sym (none ∙ ap refusal is);
    }

pub fails_head : (input : List ℕ) (spans : List HeaderSpan) (head : RequestSpans) (peer : List ℕ) (request : Request) (status : ℕ) → HeadStands (front input) spans head
    → ((tree : RequestHead) → IsRequestAt (front input) spans head tree → request ≡ shown tree [] peer) → Some status ≡ refusal request
    → Gets input peer (Refused status)
fails_head input spans head peer request status stands shows some =
    headed stands.of.0 (drop head.len (front input)) stands.of.1.reads
    (subst (λ r. CheckedIs r input peer stands.of.0 (Refused status)) (some ∙ ap refusal (shows stands.of.0 stands.of.1)) refl)

-- ---- the body

-- a head that passes, and an outcome of its body
pub body_gets : (a b : List ℕ) (r s : Option (List ℕ)) (f g : ℕ) (peer : List ℕ) (start : ℕ) (request : Request) → (passes : Passes a peer start request) → Moves a r f b s g
    → (chunked : Bool) → is_chunked request.fields ≡ chunked → (outcome : Outcome) → BodyIs chunked b peer passes.head outcome → Gets b peer outcome
body_gets a b r s f g peer start request passes moves chunked way outcome is =
    let there = head_more a moves.given passes.head passes.rest passes.reads in
    let fields : chunked ≡ is_chunked (shown passes.head [] peer).fields = sym way ∙ ap (λ (q : Request). is_chunked q.fields) passes.request_is in
    headed passes.head there.0 (subst (λ (t : List ℕ). ReadsRequest (front t) passes.head there.0) (sym moves.kept) there.1)
    (subst (λ r. CheckedIs r b peer passes.head outcome) (sym passes.passes) (subst (λ v. BodyIs v b peer passes.head outcome) fields is))

-- where the body isn't whole, the input ends too early
pub body_short : (a b : List ℕ) (r s : Option (List ℕ)) (f g : ℕ) (peer : List ℕ) (start : ℕ) (request : Request) → Passes a peer start request → Moves a r f b s g
    → is_chunked request.fields ≡ false → length b < start + body_length request.fields → Gets b peer (ended b)
body_short a b r s f g peer start request passes moves plain less =
    let fields : body_length request.fields ≡ body_length (shown passes.head [] peer).fields = ap (λ (q : Request). body_length q.fields) passes.request_is in
    body_gets a b r s f g peer start request passes moves false plain (ended b)
    (sym (short_body b peer passes.head (body_length (shown passes.head [] peer).fields) (omega (arith, less, passes.start_is, fields))))

-- where it is, the input is the request with it
pub body_whole : (a b : List ℕ) (r s : Option (List ℕ)) (f g : ℕ) (peer : List ℕ) (start : ℕ) (request full : Request) (used : ℕ) → Passes a peer start request → Moves a r f b s g
    → is_chunked request.fields ≡ false → used ≡ start + body_length request.fields → used ≤ length b
    → full ≡ record request { body = take (used - start) (drop start b) } → Gets b peer (Whole full used)
body_whole a b r s f g peer start request full used passes moves plain used_is enough full_is =
    let size = body_length (shown passes.head [] peer).fields in
    let fields : body_length request.fields ≡ size = ap (λ (q : Request). body_length q.fields) passes.request_is in
    let used_of : used ≡ length (print_request passes.head) + size = omega (arith, used_is, passes.start_is, fields) in
    let body_is : used - start ≡ size = omega (arith, used_is, fields) in
    let shows : full ≡ shown passes.head (take size (drop (length (print_request passes.head)) b)) peer =
    full_is
    ∙ ap (λ (q : Request). record q { body = take (used - start) (drop start b) }) passes.request_is
    ∙ ap (λ n. shown passes.head (take n (drop start b)) peer) body_is
    ∙ ap (λ n. shown passes.head (take size (drop n b)) peer) passes.start_is in
    body_gets a b r s f g peer start request passes moves false plain (Whole full used)
    (ap (λ (q : Request). Whole q used) shows ∙ ap (λ n. Whole (shown passes.head (take size (drop (length (print_request passes.head)) b)) peer) n) used_of
    ∙ sym (whole_body b peer passes.head size (omega (arith, enough, used_of))))

-- the length that is read
pub read_length : (input peer : List ℕ) (start : ℕ) (request : Request) → Passes input peer start request → (told : Option ℕ) → told ≡ length_told request.fields
    → (n : ℕ) → n ≡ unwrap_or told 0 → (n ≡ body_length request.fields) × (start + n ≤ 8404992)
read_length input peer start request passes told told_is n n_is =
    let both = checks_passed request (ap refusal passes.request_is ∙ passes.passes) in
    let is : n ≡ body_length request.fields =
    n_is ∙ ap (λ o. unwrap_or o 0) told_is ∙ ap (λ b. unwrap_or (if b then Some (body_length request.fields) else None) 0) both.0 in
    (is, omega (arith, is, both.1, passes.start_is, ap length passes.reads.1, length-append (print_request passes.head) passes.rest, front_size input))

pub passes_own_peer : (input peer : List ℕ) (start : ℕ) (request : Request) → Passes input peer start request → Passes input request.peer start request
passes_own_peer input peer start request passes =
    subst (λ (p : List ℕ). Passes input p start request) (sym (ap (λ (q : Request). q.peer) passes.request_is)) passes

-- the answer of a check, where the head was read before
pub fails_stops : (b : List ℕ) (r : Option (List ℕ)) (f : ℕ) (s : Option (List ℕ)) (g : ℕ) (peer : List ℕ) (answer : Got)
    → Fails b peer answer → Stops b peer r f s g answer
fails_stops b r f s g peer (got.Request request) fails = fails
fails_stops b r f s g peer got.End fails = absurd fails
fails_stops b r f s g peer (got.Truncated have) fails = absurd fails
fails_stops b r f s g peer (got.Refused status) fails = fails
fails_stops b r f s g peer got.ReadFault fails = absurd fails
fails_stops b r f s g peer got.NoMemory fails = tt

stops_then : {a b : List ℕ} {r s : Option (List ℕ)} {f g : ℕ} → Moves a r f b s g → (all peer : List ℕ) (t : Option (List ℕ)) (h : ℕ) (answer : Got)
    → Stops all peer s g t h answer → Stops all peer r f t h answer
stops_then moves all peer t h (got.Request request) stops = stops
stops_then moves all peer t h got.End stops = (stops.0, stopped_then moves t h stop.End stops.1)
stops_then moves all peer t h (got.Truncated have) stops = (stops.0, stopped_then moves t h stop.End stops.1)
stops_then moves all peer t h (got.Refused status) stops = stops
stops_then moves all peer t h got.ReadFault stops = (stops.0, stopped_then moves t h stop.Fault stops.1)
stops_then moves all peer t h got.NoMemory stops = tt

receives_then : {a b : List ℕ} {r s : Option (List ℕ)} {f g : ℕ} → Moves a r f b s g → (all peer left : List ℕ) (t : Option (List ℕ)) (h : ℕ) (result : Result Request Got)
    → Receives all peer s g left t h result → Receives all peer r f left t h result
receives_then moves all peer left t h (Ok request) receives = receives
receives_then moves all peer left t h (Err answer) receives = (stops_then moves all peer t h answer receives.0, receives.1)

-- what was read before a reading
pub received_then : (a : List ℕ) (r : Option (List ℕ)) (f : ℕ) (b : List ℕ) (s : Option (List ℕ)) (g : ℕ) (peer : List ℕ) (result : Result Request Got)
    (c : List ℕ) (t : Option (List ℕ)) (h : ℕ) → Moves a r f b s g → Received b s g peer result c t h → Received a r f peer result c t h
received_then a r f b s g peer result c t h moves received = record {
  given = moves.given ++ received.given;
  gives = gives_then moves.given received.given moves.gives received.gives;
  counts = omega (arith, moves.counts, received.counts);
  receives = subst (λ (all : List ℕ). Receives all peer r f c t h result)
      (ap (λ (l : List ℕ). l ++ received.given) moves.kept ∙ append_assoc a moves.given received.given)
      (receives_then moves (b ++ received.given) peer c t h result received.receives);
}

-- the body, read after a head that passes
pub received_body : (a : List ℕ) (r : Option (List ℕ)) (f : ℕ) (b : List ℕ) (s : Option (List ℕ)) (g : ℕ) (input peer : List ℕ) (start : ℕ) (request : Request)
    (result : Result Request Got) (c : List ℕ) (t : Option (List ℕ)) (h : ℕ) → Moves a r f b s g → Passes input peer start request
    → Received b s g request.peer result c t h → Received a r f peer result c t h
received_body a r f b s g input peer start request result c t h moves passes received =
    received_then a r f b s g peer result c t h moves
    (subst (λ (p : List ℕ). Received b s g p result c t h) (ap (λ (q : Request). q.peer) passes.request_is) received)

-- a head that doesn't pass
pub received_refusal : (a : List ℕ) (r : Option (List ℕ)) (f : ℕ) (b : List ℕ) (s : Option (List ℕ)) (g : ℕ) (input peer : List ℕ) (answer : Got) → Moves a r f b s g
    → input ≡ b → Fails input peer answer → Received a r f peer (Err answer) b s g
received_refusal a r f b s g input peer answer moves same fails =
    received_no_request a r f b s g peer answer moves
    (fails_stops b r f s g peer answer (subst (λ (t : List ℕ). Fails t peer answer) same fails))

-- what is sent, as a slice
pub sent_slice : (start : ℕ) (input : List ℕ) (end : ℕ) → start ≤ length input → end ≡ min (length input) (start + 33554432)
    → take (end - start) (drop start input) ≡ sent_front start input
unfolding sent_front
sent_slice start input end within is =
    elim (le_or_less (start + 33554432) (length input)) [
      | inl long ↦ let size : end - start ≡ 33554432 = omega (arith, is, long) in ap (λ n. take n (drop start input)) size
      | inr short ↦
          take_all (end - start) (drop start input) (omega (arith, is, short, length-drop start input))
          ∙ sym (take_all 33554432 (drop start input) (omega (arith, short, length-drop start input)))
    ]

-- where less came than may be sent, all of it is looked at
pub sent_exact : (start : ℕ) (input : List ℕ) → start ≤ length input → length input < start + 33554432 → start + length (sent_front start input) ≡ length input
unfolding sent_front
sent_exact start input within few = omega (arith, within, few, length-take 33554432 (drop start input), length-drop start input)
