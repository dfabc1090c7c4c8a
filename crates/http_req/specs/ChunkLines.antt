-- Chunk lines (RFC 9112, section 7.1): the size of a chunk in 1 to 15 hexadecimal digits, any spaces and tabs, nothing or
-- a semicolon with any text, and CR LF; at most 1,024 bytes in all.
use Rattle.std.specs.Prelude.{◌≡◌, ◌==◌, ℕ, ◌+◌, ◌*◌, ◌≤◌, Bool, ◌&&◌, ◌||◌, [], ◌∷◌, ◌++◌, nat_lt, nat_le, if◌then◌else◌, ⊤}
use Rattle.std.specs.Char.{digit_value}
use Rattle.txt_core.specs.Names.{Bytes}
use Rattle.txt_core.specs.Texts.{is_newline}
use Rattle.http_req.specs.declared.chunk_line.LineSpot.{LineSpot}
use Rattle.http_req.specs.declared.chunk_line.LineSpot.TheVariants as spot
use Rattle.http_req.specs.declared.chunk_line.LineStep.{LineStep}
use Rattle.http_req.specs.declared.chunk_line.LineStep.TheVariants as step
use Rattle.http_req.specs.declared.chunk_line.ChunkLine.{ChunkLine}
use Rattle.http_req.specs.declared.chunk_line.ChunkLine.TheVariants as line
use Rattle.http_req.specs.Limits.{size_digit_limit, line_room}

-- CR, LF and the blanks of a line
abbrev pub is_return : ℕ → Bool
is_return byte = byte == 13

abbrev pub is_space_or_tab : ℕ → Bool
is_space_or_tab byte = byte == 32 || byte == 9

-- a byte of text, which may stand in an extension or in a line of the trailer: tab, 32 to 126, or above 127
abbrev pub is_text_byte : ℕ → Bool
is_text_byte byte = byte == 9 || (nat_le 32 byte && nat_le byte 126) || nat_lt 127 byte

-- Behind the size stand spaces and tabs, then a semicolon, or the line ends. So many bytes of the line stand before the byte.
abbrev pub behind_size : ℕ → ℕ → LineStep
behind_size at byte =
    if is_return byte then step.Go spot.Return
    else if nat_le line_room at then step.Bad
    else if is_space_or_tab byte then step.Go spot.Blanks
    else if byte == 59 then step.Go spot.Extension
    else step.Bad

-- behind the semicolon stands text, or the line ends
abbrev pub behind_semicolon : ℕ → ℕ → LineStep
behind_semicolon at byte =
    if is_return byte then step.Go spot.Return
    else if nat_lt at line_room && is_text_byte byte then step.Go spot.Extension
    else step.Bad

-- What a byte is at a spot of a chunk line: a digit of the size, of which there is one at least; what stands behind the size
-- or the semicolon; the line's end; or a byte with which no chunk line can go on there.
abbrev pub line_step : LineSpot → ℕ → ℕ → LineStep
line_step spot.Size at byte =
    if nat_lt at size_digit_limit && nat_lt (digit_value byte) 16 then step.Digit (digit_value byte)
    else if at == 0 then step.Bad
    else behind_size at byte
line_step spot.Blanks at byte = behind_size at byte
line_step spot.Extension at byte = behind_semicolon at byte
line_step spot.Return at byte = if is_newline byte then step.End else step.Bad

-- the line behind a byte, from the spots to which it may lead and the size so far
abbrev pub line_on : LineStep → ℕ → ℕ → (LineSpot → ℕ → ChunkLine) → ChunkLine
line_on (step.Digit value) at size go = go spot.Size (16 * size + value)
line_on (step.Go to) at size go = go to size
line_on step.End at size go = line.Whole size (at + 1)
line_on step.Bad at size go = line.Bad

-- A chunk line, of which so many bytes stand before the text, with this size so far: whole, with its size and how many bytes
-- it takes; bad at the first byte with which no chunk line can go on; or cut by the end of the text.
abbrev pub line_from : LineSpot → ℕ → ℕ → Bytes → ChunkLine
line_from spot at size [] = line.Cut
line_from spot at size (byte ∷ rest) = line_on (line_step spot at byte) at size (λ to more. line_from to (at + 1) more rest)

-- the chunk line at the front of the text
abbrev pub chunk_line : Bytes → ChunkLine
chunk_line text = line_from spot.Size 0 0 text

-- a whole line takes no more bytes than there are
abbrev pub IsLineWithin : ℕ → ChunkLine → Type 0
IsLineWithin most (line.Whole size taken) = taken ≤ most
IsLineWithin most line.Bad = ⊤
IsLineWithin most line.Cut = ⊤

-- a whole chunk line begins with the text: some bytes behind it make one
abbrev pub BeginsLine : Bytes → Type 0
BeginsLine text = (more : Bytes) × (size : ℕ) × (taken : ℕ) × (chunk_line (text ++ more) ≡ line.Whole size taken)
