-- How far the reading of a body in chunks has come, and why it stops.
use Rattle.std.specs.Prelude.{◌≡◌, ℕ, ◌+◌, ◌<◌, ◌≤◌, ◌⊎◌, ◌++◌, length, drop, Option, Result, Ok, Err}
use Rattle.txt_core.specs.Names.{Bytes}
use Rattle.http_req.specs.declared.request.Got.{Got}
use Rattle.http_req.specs.declared.request.Request.{Request}
use Rattle.http_req.specs.declared.request.Got.TheVariants as got
use Rattle.http_req.specs.declared.carry.Stop.{Stop}
use Rattle.http_req.specs.declared.trailer.TrailerSpot.TheVariants as spot
use Rattle.http_req.specs.declared.trailer.Trailer.TheVariants as trailer
use Rattle.http_req.specs.Chunks.{Sent, rejected, partial, put, trailing, ChunksAt}
use Rattle.http_req.specs.Fetching.{Stopped}
use Rattle.http_req.specs.Limits.{sent_limit}
use Rattle.http_req.specs.Readings.{cut_answer}
use Rattle.http_req.specs.Statuses.{content_too_large}
use Rattle.http_req.specs.Trailers.{trailer_from}

-- what the reading of a body comes to: the request, which has its body then, or the answer in its place
abbrev pub comes_to : Result (Unit {0}) Got → Request → Result Request Got
comes_to (Ok done) request = Ok request
comes_to (Err answer) request = Err answer

-- So many bytes of the text are the chunks of this body and the last line, whatever follows the text.
pub record EndsChunks (text body : Bytes) (begin : ℕ) : Type 0 where
  pub within : begin ≤ length text
  pub ends : (more : Bytes) → ChunksAt 0 (text ++ more) (put body (trailing (drop begin (text ++ more))))

-- the trailer behind so many bytes of the text ends behind so many
abbrev pub EndsTrailer : Bytes → ℕ → ℕ → Type 0
EndsTrailer text begin size =
    (taken : ℕ) × (trailer_from spot.Begin 0 (drop begin text) ≡ trailer.Whole taken) × (size ≡ begin + taken)

-- Why no more is asked for: as many bytes are there as may be, or the source has ended or failed.
abbrev pub Halts : Bytes → Result (Unit {0}) Stop → ℕ → Got → Type 0
Halts carry fetched most answer =
    ((most ≤ length carry) × (answer ≡ got.Refused content_too_large))
    ⊎ ((length carry < most) × ((how : Stop) × (fetched ≡ Err how) × (answer ≡ cut_answer carry how)))

-- Why a reading of what is sent behind a head of so many bytes stops with this answer, from what all that came is: it is refused;
-- it isn't whole, where it is as long as it may be, or where no more came; or memory ran out.
pub data SentStops
    (Is : Sent → Type 0) (all : Bytes) (start : ℕ)
    (rest : Option Bytes) (faults : ℕ) (rest_after : Option Bytes) (faults_after : ℕ) (answer : Got) : Type 0 where
  by_refusal : (status : ℕ) → Is (rejected status) → answer ≡ got.Refused status
      → SentStops Is all start rest faults rest_after faults_after answer
  by_limit : Is partial → start + sent_limit ≤ length all → answer ≡ got.Refused content_too_large
      → SentStops Is all start rest faults rest_after faults_after answer
  by_stop : (how : Stop) → Is partial → length all < start + sent_limit → Stopped rest faults how rest_after faults_after
      → answer ≡ cut_answer all how → SentStops Is all start rest faults rest_after faults_after answer
  by_memory : answer ≡ got.NoMemory → SentStops Is all start rest faults rest_after faults_after answer
