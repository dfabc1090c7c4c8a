-- What an input is, taken as a whole.
use Rattle.std.specs.Prelude.{◌≡◌, ℕ, ◌+◌, ◌-◌, ◌<◌, ◌≤◌, Bool, true, false, [], ◌∷◌, length, take, drop, nat_le, if◌then◌else◌, Option, Some, None}
use Rattle.httparse.specs.Grammar.{RequestHead, print_request, ReadsRequest, HasNoRequest}
use Rattle.txt_core.specs.Names.{Bytes}
use Rattle.http_req.specs.declared.request.Request.{Request}
use Rattle.http_req.specs.Chunks.{Sent, whole, rejected, partial, ChunksAt}
use Rattle.http_req.specs.Fields.{body_length, is_chunked}
use Rattle.http_req.specs.Heads.{front, IsMalformed}
use Rattle.http_req.specs.Limits.{head_limit, sent_limit}
use Rattle.http_req.specs.Requests.{shown, refusal}
use Rattle.http_req.specs.Statuses.{bad_request, content_too_large, fields_too_large}

-- a request that takes so many bytes; no byte; so many bytes, less than a request; what is refused
pub data Outcome : Type 0 where
  Whole : (request : Request) (used : ℕ) → Outcome
  End : Outcome
  Truncated : (have : ℕ) → Outcome
  Refused : (status : ℕ) → Outcome

-- what an input is that ends too early
abbrev pub ended : Bytes → Outcome
ended [] = End
ended (byte ∷ rest) = Truncated (length (byte ∷ rest))

-- the input has as many bytes behind its head as the body is to have, or ends too early
abbrev pub with_body : Bytes → Bytes → RequestHead → ℕ → Outcome
with_body input peer head size =
    let start = length (print_request head) in
    if nat_le (start + size) (length input)
    then Whole (shown head (take size (drop start input)) peer) (start + size)
    else ended input

-- the bytes in which a chunked body is to stand, behind a head that takes so many
unfoldable pub sent_front : ℕ → Bytes → Bytes
sent_front start input = take sent_limit (drop start input)

-- What the input is, from what is sent behind its head: the request with the body of the chunks; what is refused, also where
-- the body isn't whole in as many bytes as a chunked one may take; or less than a request.
abbrev pub with_chunks : Bytes → Bytes → RequestHead → Sent → Outcome
with_chunks input peer head (whole body left) =
    let start = length (print_request head) in
    Whole (shown head body peer) (start + (length (sent_front start input) - left))
with_chunks input peer head (rejected status) = Refused status
with_chunks input peer head partial =
    if nat_le (length (print_request head) + sent_limit) (length input) then Refused content_too_large else ended input

-- the body in chunks, or of as many bytes as the fields say
abbrev pub BodyIs : Bool → Bytes → Bytes → RequestHead → Outcome → Type 0
BodyIs true input peer head outcome =
    (sent : Sent) × ChunksAt 0 (sent_front (length (print_request head)) input) sent × (outcome ≡ with_chunks input peer head sent)
BodyIs false input peer head outcome = outcome ≡ with_body input peer head (body_length (shown head [] peer).fields)

-- an input that begins with the head, whose checks gave this status, or none
abbrev pub CheckedIs : Option ℕ → Bytes → Bytes → RequestHead → Outcome → Type 0
CheckedIs (Some status) input peer head outcome = outcome ≡ Refused status
CheckedIs None input peer head outcome = BodyIs (is_chunked (shown head [] peer).fields) input peer head outcome

-- What an input from a peer is.
--   malformed: there is no head, and at the end of a line it is plain that there will be none;
--   oversized: there is no head in as many bytes as a head may take;
--   cut: the input ends before a head is whole, be it at once;
--   headed: there is a head, and then its checks and the length of the body decide.
pub data Gets (input peer : Bytes) (outcome : Outcome) : Type 0 where
  malformed : HasNoRequest (front input) → IsMalformed (front input) → outcome ≡ Refused bad_request
      → Gets input peer outcome
  oversized : HasNoRequest (front input) → ¬ (IsMalformed (front input)) → head_limit ≤ length input
      → outcome ≡ Refused fields_too_large → Gets input peer outcome
  cut : HasNoRequest (front input) → ¬ (IsMalformed (front input)) → length input < head_limit
      → outcome ≡ ended input → Gets input peer outcome
  headed : (head : RequestHead) (rest : Bytes) → ReadsRequest (front input) head rest
      → CheckedIs (refusal (shown head [] peer)) input peer head outcome → Gets input peer outcome

-- it is this, and nothing else
pub record GetsOnly (input peer : Bytes) (outcome : Outcome) : Type 0 where
  pub gets : Gets input peer outcome
  pub only : (other : Outcome) → Gets input peer other → other ≡ outcome
