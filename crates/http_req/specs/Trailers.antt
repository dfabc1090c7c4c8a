-- Trailers of chunked bodies (RFC 9112, section 7.1.2): lines of one or more bytes of text, each with CR LF, and then CR LF;
-- at most 16,384 bytes in all.
use Rattle.std.specs.Prelude.{ℕ, ◌+◌, [], ◌∷◌, nat_lt, if◌then◌else◌}
use Rattle.txt_core.specs.Names.{Bytes}
use Rattle.txt_core.specs.Texts.{is_newline}
use Rattle.http_req.specs.declared.trailer.TrailerSpot.{TrailerSpot}
use Rattle.http_req.specs.declared.trailer.TrailerSpot.TheVariants as spot
use Rattle.http_req.specs.declared.trailer.TrailerStep.{TrailerStep}
use Rattle.http_req.specs.declared.trailer.TrailerStep.TheVariants as step
use Rattle.http_req.specs.declared.trailer.Trailer.{Trailer}
use Rattle.http_req.specs.declared.trailer.Trailer.TheVariants as trailer
use Rattle.http_req.specs.ChunkLines.{is_return, is_text_byte}
use Rattle.http_req.specs.Limits.{trailer_limit}

-- in a line stands text, or the CR of its end, which leads to this spot
abbrev pub in_line : TrailerSpot → ℕ → TrailerStep
in_line at_return byte =
    if is_return byte then step.Go at_return
    else if is_text_byte byte then step.Go spot.Inside
    else step.Bad

-- What a byte is at a spot of a trailer: the empty line ends it, and behind a line with text a further one begins.
abbrev pub trailer_step : TrailerSpot → ℕ → TrailerStep
trailer_step spot.Begin byte = in_line spot.Last byte
trailer_step spot.Inside byte = in_line spot.Return byte
trailer_step spot.Return byte = if is_newline byte then step.Go spot.Begin else step.Bad
trailer_step spot.Last byte = if is_newline byte then step.End else step.Bad

-- the trailer behind a byte, from the spots to which it may lead
abbrev pub trailer_on : TrailerStep → ℕ → (TrailerSpot → Trailer) → Trailer
trailer_on (step.Go to) at go = if nat_lt (at + 1) trailer_limit then go to else trailer.Crowded
trailer_on step.End at go = trailer.Whole (at + 1)
trailer_on step.Bad at go = trailer.Bad

-- A trailer, of which so many bytes stand before the text: whole, with how many bytes it takes; bad at the first byte with
-- which no trailer can go on; crowded once as many bytes are there as a trailer may take, and it isn't whole; or cut by the
-- end of the text.
abbrev pub trailer_from : TrailerSpot → ℕ → Bytes → Trailer
trailer_from spot at [] = trailer.Cut spot
trailer_from spot at (byte ∷ rest) = trailer_on (trailer_step spot byte) at (λ to. trailer_from to (at + 1) rest)
