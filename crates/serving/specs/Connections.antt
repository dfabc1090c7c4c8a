-- When a connection closes, and what counts for it.
use Rattle.std.specs.Prelude.{ℕ, nat_le, nat_lt, ◌==◌, ◌&&◌, ◌||◌, Bool, length, map, bytes_eq, codes, if◌then◌else◌}
use Rattle.std.specs.List.{list_any, slice_split}
use Rattle.std.specs.Char.{to_ascii_lowercase}
use Rattle.txt_core.specs.Names.{Bytes}
use Rattle.txt_core.specs.Number.{trimmed}
use Rattle.outside.specs.declared.question.Answer.{Answer}
use Rattle.outside.specs.declared.question.Answer.TheVariants.{Said, Failed, Page, NoPage, PageFault}
use Rattle.http_req.specs.Fields.{is_named}
use Rattle.http_req.specs.declared.request.Request.{Request}
use Rattle.serving.specs.declared.connection.Behind.{Behind}
use Rattle.serving.specs.declared.connection.Behind.TheVariants.{GoesOn, Closing, Spent}

-- ---- what a request asks

abbrev pub is_comma : ℕ → Bool
is_comma byte = byte == 44

-- An element of a list, without the blanks round it, is `close`, whatever the case of its letters. Round an element RFC 9110 has spaces
-- and tabs; of the other blanks that are trimmed here, the grammar of heads lets none stand in a value.
abbrev pub is_close : Bytes → Bool
is_close element = bytes_eq (map to_ascii_lowercase (trimmed element)) (codes "close")

-- the elements of a field's list stand between its commas (RFC 9110, section 5.6.1); one of them is `close`
abbrev pub holds_close : Bytes → Bool
holds_close value = list_any is_close (slice_split is_comma value)

-- a field that asks for it: Connection (RFC 9110, section 7.6.1)
abbrev pub is_closing : Bytes × Bytes → Bool
is_closing field = is_named (codes "connection") field && holds_close field.1

-- A request asks that its connection close behind it where it is of HTTP/1.0, or where such a field of it does.
abbrev pub asks_close : Request → Bool
asks_close request = (request.minor == 0) || list_any is_closing request.fields

-- to HEAD the head of the response alone is sent
abbrev pub is_head_only : Request → Bool
is_head_only request = bytes_eq request.method (codes "HEAD")

-- ---- what a connection may have

-- how many bytes an answer has: those of its text or page
abbrev pub answer_bytes : Answer → ℕ
answer_bytes (Said text) = length text
answer_bytes (Failed why) = length why
answer_bytes (Page page) = length page
answer_bytes NoPage = 0
answer_bytes PageFault = 0

-- how many requests a connection may have
abbrev pub most_served : ℕ
most_served = 100

-- how many bytes of answers its requests may have had, and another one follow
abbrev pub most_answered : ℕ
most_answered = 8388608

-- A connection that has had so many requests, the one under way among them, and so many bytes of answers, has had all that it may.
abbrev pub is_spent : ℕ → ℕ → Bool
is_spent requests bytes = nat_le most_served requests || nat_lt most_answered bytes

-- What the response to a request says of the connection: it closes where the request asks so, and where it is spent.
abbrev pub closes : Bool → ℕ → ℕ → Bool
closes asks requests bytes = asks || is_spent requests bytes

-- What follows the request: where it asks so the connection closes, else where it is spent, and else the next request comes.
abbrev pub after_request : Bool → ℕ → ℕ → Behind
after_request asks requests bytes = if asks then Closing else if is_spent requests bytes then Spent else GoesOn
