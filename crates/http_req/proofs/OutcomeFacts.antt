-- What an input is: there is one answer, and which it is at each find.
use Rattle.std.proofs.Common.{◌≡◌, ℕ, ◌<◌, ◌≤◌, inl, inr, List, [], ◌∷◌, ◌++◌, Bool, true, false, Option, Some, None, length, take, drop, min, refl, sym, ap, ◌∙◌, subst, arith, append_assoc, length-append}
use Rattle.std.specs.Prelude.{All}
use Rattle.httparse.specs.declared.spans.HeaderSpan.{HeaderSpan}
use Rattle.httparse.specs.Grammar.{RequestHead, ReadsRequest, NeverHasRequest, MayBecomeRequest, print_request}
use Rattle.httparse.specs.declared.spans.RequestSpans.{RequestSpans}
use Rattle.httparse.specs.Spans.{RequestExceeds, IsHeaderWithin, header_bytes}
use Rattle.httparse.proofs.GrammarLemmas.{request_unique, ReadsRequest-append}
use Rattle.std.proofs.Common.{length-take, length-drop, map, slice_range, ◌-◌}
use Rattle.std.proofs.lemmas.List.{take-append-le, drop-append-le}
use Rattle.std.proofs.lemmas.List.Elements.{All-head, All-tail}
use Rattle.std.proofs.lemmas.List.{take_min}
use Rattle.http_req.specs.declared.head.Front.{Front}
use Rattle.http_req.specs.declared.head.Front.TheVariants as found
use Rattle.http_req.specs.Heads.{front, IsMalformed}
use Rattle.http_req.specs.Fronts.{AreWholeLines, HeadStands, FindsFront}
use Rattle.http_req.specs.Outcomes.{Outcome, Refused, sent_front, with_body, with_chunks, BodyIs, CheckedIs, Gets, malformed, oversized, cut, headed, GetsOnly}
use Rattle.http_req.specs.Requests.{shown, refusal}
use Rattle.http_req.specs.Fields.{is_chunked, body_length}
use Rattle.http_req.proofs.ChunkFacts.{chunks_one, chunks_some}
use Rattle.http_req.proofs.HeadFacts.{request_bytes, not_in_target, fine_by_lines}

body_one : (chunked : Bool) (input peer : List ℕ) (head : RequestHead) (a b : Outcome) → BodyIs chunked input peer head a → BodyIs chunked input peer head b → b ≡ a
body_one true input peer head a b (s, sent, is) (s', sent', is') =
    let same : s ≡ s' = chunks_one 0 (sent_front (length (print_request head)) input) s s' sent sent' in
    is' ∙ ap (with_chunks input peer head) (sym same) ∙ sym is
body_one false input peer head a b is is' = is' ∙ sym is

checked_one : (refused : Option ℕ) (input peer : List ℕ) (head : RequestHead) (a b : Outcome) → CheckedIs refused input peer head a → CheckedIs refused input peer head b → b ≡ a
checked_one (Some status) input peer head a b is is' = is' ∙ sym is
checked_one None input peer head a b is is' = body_one (is_chunked (shown head [] peer).fields) input peer head a b is is'

-- behind each head there is something
checked_some : (refused : Option ℕ) (input peer : List ℕ) (head : RequestHead) → (outcome : Outcome) × CheckedIs refused input peer head outcome
checked_some (Some status) input peer head = (Refused status, refl)
checked_some None input peer head = go (is_chunked (shown head [] peer).fields)
  where
    go : (chunked : Bool) → (outcome : Outcome) × BodyIs chunked input peer head outcome
    go true =
        let sent = chunks_some (length (sent_front (length (print_request head)) input)) 0 (sent_front (length (print_request head)) input) (omega arith) in
        (with_chunks input peer head sent.0, (sent.0, sent.1, refl))
    go false = (with_body input peer head (body_length (shown head [] peer).fields), refl)

-- each input is one thing only
pub gets_one : (input peer : List ℕ) (a b : Outcome) → Gets input peer a → Gets input peer b → b ≡ a
gets_one input peer a b (malformed none wrong is) (malformed none' wrong' is') = is' ∙ sym is
gets_one input peer a b (malformed none wrong is) (oversized none' fine many is') = absurd (fine wrong)
gets_one input peer a b (malformed none wrong is) (cut none' fine few is') = absurd (fine wrong)
gets_one input peer a b (malformed none wrong is) (headed head rest reads is') = absurd (none head rest reads)
gets_one input peer a b (oversized none fine many is) (malformed none' wrong is') = absurd (fine wrong)
gets_one input peer a b (oversized none fine many is) (oversized none' fine' many' is') = is' ∙ sym is
gets_one input peer a b (oversized none fine many is) (cut none' fine' few is') = absurd (omega (arith, many, few))
gets_one input peer a b (oversized none fine many is) (headed head rest reads is') = absurd (none head rest reads)
gets_one input peer a b (cut none fine few is) (malformed none' wrong is') = absurd (fine wrong)
gets_one input peer a b (cut none fine few is) (oversized none' fine' many is') = absurd (omega (arith, many, few))
gets_one input peer a b (cut none fine few is) (cut none' fine' few' is') = is' ∙ sym is
gets_one input peer a b (cut none fine few is) (headed head rest reads is') = absurd (none head rest reads)
gets_one input peer a b (headed head rest reads is) (malformed none' wrong is') = absurd (none' head rest reads)
gets_one input peer a b (headed head rest reads is) (oversized none' fine many is') = absurd (none' head rest reads)
gets_one input peer a b (headed head rest reads is) (cut none' fine few is') = absurd (none' head rest reads)
gets_one input peer a b (headed head rest reads is) (headed head' rest' reads' is') =
    let same = request_unique (front input) head head' rest rest' reads reads' in
    checked_one (refusal (shown head [] peer)) input peer head a b is
    (subst (λ (h : RequestHead). CheckedIs (refusal (shown h [] peer)) input peer h b) (sym same.0) is')

only_this : (input peer : List ℕ) (outcome : Outcome) → Gets input peer outcome → (o : Outcome) × GetsOnly input peer o
only_this input peer outcome gets = (outcome, record { gets = gets; only = λ other found. gets_one input peer outcome other gets found })

-- as many bytes as a head may take show less than 8,192 fields
pub few_exceed : (room : ℕ) (text : List ℕ) → length text ≤ 16384 → RequestExceeds room text → room < 8192
few_exceed room text short (before, rest, parts, head, reads, many) =
    omega (
      arith,
      many,
      request_bytes head,
      ap length reads.1,
      length-append (print_request head) [],
      length-append before (10 ∷ []),
      ap length parts,
      length-append before rest,
    )

pub front_size : (input : List ℕ) → length (front input) ≤ 16384
unfolding front
front_size input = omega (arith, length-take 16384 input)

-- a front has more fields than there is room for only where there is less than the most that it can need
pub crowded_room : (input : List ℕ) (spans : List HeaderSpan) → FindsFront input spans found.Crowded → length spans < 8192
crowded_room input spans exceeds = few_exceed (length spans) (front input) (front_size input) exceeds

-- a head at the front says what the input is
pub one_by_head : (input : List ℕ) (spans : List HeaderSpan) (head : RequestSpans) → HeadStands (front input) spans head
    → (peer : List ℕ) → (outcome : Outcome) × GetsOnly input peer outcome
one_by_head input spans head stands peer =
    let some = checked_some (refusal (shown stands.of.0 [] peer)) input peer stands.of.0 in
    only_this input peer some.0 (headed stands.of.0 _ stands.of.1.reads some.1)

-- what is found at the front, where there is room for what it can have, says what the input is
pub one_by_front : (input : List ℕ) (spans : List HeaderSpan) (found : Front) → FindsFront input spans found → 8192 ≤ length spans
    → (peer : List ℕ) → (outcome : Outcome) × GetsOnly input peer outcome
one_by_front input spans (found.Head head) stands room peer = one_by_head input spans head stands peer
one_by_front input spans (found.Refused status) gets room peer = only_this input peer _ (gets peer)
one_by_front input spans found.Cut gets room peer = only_this input peer _ (gets.0 peer)
one_by_front input spans found.Crowded exceeds room peer = absurd (omega (arith, room, crowded_room input spans exceeds))

-- where the lines can't become a head, the input is malformed
pub malformed_lines : {input lines : List ℕ} → AreWholeLines (front input) lines → 0 < length lines → NeverHasRequest lines
    → (peer : List ℕ) → Gets input peer (Refused 400)
malformed_lines {input} {lines} are some never peer =
    elim are.ends [
      | inl none ↦ absurd (omega (arith, some, ap length none))
      | inr w ↦ malformed
          (λ head rest reads. never are.rest head rest (reads.0, sym are.parts ∙ reads.1))
          (record {
            before = w.0;
            after = are.rest;
            parts = are.parts ∙ ap (λ (t : List ℕ). t ++ are.rest) w.1 ∙ append_assoc w.0 (10 ∷ []) are.rest;
            never = λ more head reads. never more head [] (subst (λ (t : List ℕ). ReadsRequest (t ++ more) head []) (sym w.1) reads);
          })
          refl
    ]

-- the fields of the lines are the front's
pub exceeds_in_front : (input lines : List ℕ) → AreWholeLines (front input) lines → (room : ℕ) → RequestExceeds room lines
    → RequestExceeds room (front input)
exceeds_in_front input lines are room (before, rest, parts, head, reads, many) = (
  before,
  rest ++ are.rest,
  are.parts ∙ ap (λ (t : List ℕ). t ++ are.rest) parts ∙ append_assoc before rest are.rest,
  head,
  reads,
  many,
)

-- where more bytes can make a head of the lines, there is none yet, and no line that is wrong
pub open_lines : {text lines : List ℕ} → AreWholeLines text lines → 0 < length lines → MayBecomeRequest lines → ¬ (IsMalformed text)
open_lines are some (inl (more, head, reads)) = fine_by_lines are more head reads
open_lines {text} {lines} are some (inr target) =
    elim are.ends [
      | inl none ↦ absurd (omega (arith, some, ap length none))
      | inr w ↦ absurd (not_in_target lines w.0 w.1 target)
    ]

pub front_lines : (input : List ℕ) (lines : List ℕ) (n : ℕ) → n ≡ min 16384 (length input) → AreWholeLines (take n input) lines → AreWholeLines (front input) lines
unfolding front
front_lines input lines n is are = subst (λ (t : List ℕ). AreWholeLines t lines) (ap (λ k. take k input) is ∙ take_min 16384 input) are

span_further : (lines more : List ℕ) (from to : ℕ) → to ≤ length lines → from ≤ to → slice_range (lines ++ more) from to ≡ slice_range lines from to
span_further lines more from to inside ordered =
    let some : from ≤ length lines = omega arith in
    rw (drop-append-le from lines more some) (take-append-le (to - from) (drop from lines) more (omega (arith, length-drop from lines)))

headers_further : (lines more : List ℕ) (len : ℕ) (spans : List HeaderSpan) → len ≤ length lines → All (IsHeaderWithin len) spans
    → map (header_bytes (lines ++ more)) spans ≡ map (header_bytes lines) spans
headers_further lines more len [] inside within = refl
headers_further lines more len (h ∷ spans) inside within =
    let here = All-head (IsHeaderWithin len) h spans within in
    let name = span_further lines more h.name.start h.name.end (omega (arith, here.0)) here.0.0 in
    let value = span_further lines more h.value.start h.value.end (omega (arith, here.1)) here.1.0 in
    let rest = headers_further lines more len spans inside (All-tail (IsHeaderWithin len) h spans within) in
    cc (name, value, rest)

-- the spans of a head in the lines cover its parts in what they are the front of
pub head_further : (lines more : List ℕ) (spans : List HeaderSpan) (head : RequestSpans) → HeadStands lines spans head
    → HeadStands (lines ++ more) spans head
head_further lines more spans head stands = record {
  within = record {
    method = stands.within.method;
    path = stands.within.path;
    version = stands.within.version;
    section = record {
      len_fits = omega (arith, stands.within.section.len_fits, length-append lines more);
      count_fits = stands.within.section.count_fits;
      headers_fit = stands.within.section.headers_fit;
    };
  };
  of = (
    stands.of.0,
    record {
      reads = rw (drop-append-le head.len lines more stands.within.section.len_fits) (ReadsRequest-append lines stands.of.0 (drop head.len lines) more stands.of.1.reads);
      len = stands.of.1.len;
      method = span_further lines more head.method.start head.method.end (omega (arith, stands.within.method, stands.within.section.len_fits)) stands.within.method.0 ∙ stands.of.1.method;
      path = span_further lines more head.path.start head.path.end (omega (arith, stands.within.path, stands.within.section.len_fits)) stands.within.path.0 ∙ stands.of.1.path;
      version = stands.of.1.version;
      fields = headers_further lines more head.len (take head.headers spans) stands.within.section.len_fits stands.within.section.headers_fit ∙ stands.of.1.fields;
    },
  );
}

pub head_in_front : (input lines : List ℕ) → AreWholeLines (front input) lines → (spans : List HeaderSpan) (head : RequestSpans)
    → HeadStands lines spans head → HeadStands (front input) spans head
head_in_front input lines are spans head stands =
    subst (λ (t : List ℕ). HeadStands t spans head) (sym are.parts) (head_further lines are.rest spans head stands)
