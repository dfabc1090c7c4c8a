-- The limits on a request.
use Rattle.std.specs.Prelude.{ℕ}

-- a head takes at most so many bytes
abbrev pub head_limit : ℕ
head_limit = 16384

-- and has at most so many fields
abbrev pub field_limit : ℕ
field_limit = 100

-- a body has at most so many bytes
abbrev pub body_limit : ℕ
body_limit = 8388608

-- a chunked body takes at most so many bytes as it is sent
abbrev pub sent_limit : ℕ
sent_limit = 33554432

-- the size of a chunk is written in at most so many digits
abbrev pub size_digit_limit : ℕ
size_digit_limit = 15

-- a chunk line has at most so many bytes before its CR LF, so 1,024 with it
abbrev pub line_room : ℕ
line_room = 1022

-- a trailer takes at most so many bytes
abbrev pub trailer_limit : ℕ
trailer_limit = 16384

-- a length is written in at most so many digits
abbrev pub digit_limit : ℕ
digit_limit = 19
