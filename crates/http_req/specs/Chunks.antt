-- Chunked bodies (RFC 9112, section 7.1): chunks, a last line and a trailer. A chunk is a chunk line whose size isn't 0, as many
-- bytes, and CR LF. The last line is a chunk line of size 0. The body is the bytes of the chunks, in order.
use Rattle.std.specs.Prelude.{◌≡◌, ◌==◌, ℕ, ◌+◌, ◌-◌, ◌<◌, [], ◌∷◌, ◌++◌, length, take, drop, ◌&&◌, nat_lt, if◌then◌else◌}
use Rattle.txt_core.specs.Names.{Bytes}
use Rattle.txt_core.specs.Texts.{is_newline}
use Rattle.http_req.specs.declared.chunk_line.ChunkLine.{ChunkLine}
use Rattle.http_req.specs.declared.chunk_line.ChunkLine.TheVariants as line
use Rattle.http_req.specs.declared.chunk.DataEnd.{DataEnd}
use Rattle.http_req.specs.declared.chunk.DataEnd.TheVariants as end
use Rattle.http_req.specs.declared.chunk.Chunk.{Chunk}
use Rattle.http_req.specs.declared.chunk.Chunk.TheVariants as found
use Rattle.http_req.specs.declared.trailer.TrailerSpot.TheVariants as spot
use Rattle.http_req.specs.declared.trailer.Trailer.{Trailer}
use Rattle.http_req.specs.declared.trailer.Trailer.TheVariants as trailer
use Rattle.http_req.specs.ChunkLines.{is_return, chunk_line}
use Rattle.http_req.specs.Limits.{body_limit}
use Rattle.http_req.specs.Statuses.{bad_request, content_too_large, fields_too_large}
use Rattle.http_req.specs.Trailers.{trailer_from}

-- the CR LF behind the data of a chunk is there; the text ends before it is; or another byte stands there
abbrev pub data_end : Bytes → DataEnd
data_end [] = end.Missing
data_end (a ∷ []) = if is_return a then end.Missing else end.Wrong
data_end (a ∷ b ∷ rest) = if is_return a && is_newline b then end.Ended else end.Wrong

-- What stands at the front of a text: a chunk, whose line and data take so many bytes; the last line, which takes so many
-- bytes; what is refused with a status; or less than a chunk.
pub data Piece : Type 0 where
  chunk : (line size : ℕ) → Piece
  last : (line : ℕ) → Piece
  refused : (status : ℕ) → Piece
  less : Piece

-- a chunk, from what stands behind its data
abbrev pub behind_data : ℕ → ℕ → DataEnd → Piece
behind_data taken size end.Ended = chunk taken size
behind_data taken size end.Missing = less
behind_data taken size end.Wrong = refused bad_request

-- What follows a chunk line: at its end the sizes of all chunks up to this one must be within the limit on bodies.
abbrev pub behind_line : ℕ → Bytes → ChunkLine → Piece
behind_line sum text line.Bad = refused bad_request
behind_line sum text line.Cut = less
behind_line sum text (line.Whole size taken) =
    if nat_lt body_limit (sum + size) then refused content_too_large
    else if size == 0 then last taken
    else behind_data taken size (data_end (drop (taken + size) text))

-- what stands at the front of a text, behind chunks whose sizes come to this sum
unfoldable pub piece_at : ℕ → Bytes → Piece
piece_at sum text = behind_line sum text (chunk_line text)

-- what is found at the front of a text of so many bytes
abbrev pub Finds : Piece → ℕ → Chunk → Type 0
Finds piece size (found.Data taken bytes) = piece ≡ chunk taken bytes
Finds piece size (found.Last taken) = piece ≡ last taken
Finds piece size (found.Refused status) = piece ≡ refused status
Finds piece size (found.Cut need) = (piece ≡ less) × (size < need)

-- What a text is as a chunked body: whole, with the body and how many bytes are left behind it; refused with a status; or less
-- than a chunked body.
pub data Sent : Type 0 where
  whole : (body : Bytes) (left : ℕ) → Sent
  rejected : (status : ℕ) → Sent
  partial : Sent

-- the same with the data of a chunk before it
abbrev pub put : Bytes → Sent → Sent
put bytes (whole body left) = whole (bytes ++ body) left
put bytes (rejected status) = rejected status
put bytes partial = partial

-- what the trailer, of a text of so many bytes, makes of the whole
abbrev pub behind_trailer : ℕ → Trailer → Sent
behind_trailer size (trailer.Whole taken) = whole [] (size - taken)
behind_trailer size trailer.Bad = rejected bad_request
behind_trailer size trailer.Crowded = rejected fields_too_large
behind_trailer size (trailer.Cut at) = partial

-- what stands behind the last line
abbrev pub trailing : Bytes → Sent
trailing text = behind_trailer (length text) (trailer_from spot.Begin 0 text)

-- What a text is, behind chunks whose sizes come to this sum: what stands at its front decides, or the trailer behind the last
-- line, or, behind a chunk with its data and CR LF, the rest.
pub data ChunksAt : ℕ → Bytes → Sent → Type 0 where
  refuses : {sum : ℕ} {text : Bytes} (status : ℕ) → piece_at sum text ≡ refused status → ChunksAt sum text (rejected status)
  ends : {sum : ℕ} {text : Bytes} → piece_at sum text ≡ less → ChunksAt sum text partial
  trails : {sum : ℕ} {text : Bytes} (taken : ℕ) → piece_at sum text ≡ last taken → ChunksAt sum text (trailing (drop taken text))
  continues : {sum : ℕ} {text : Bytes} (taken size : ℕ) (sent : Sent) → piece_at sum text ≡ chunk taken size
      → ChunksAt (sum + size) (drop (taken + size + 2) text) sent → ChunksAt sum text (put (take size (drop taken text)) sent)
