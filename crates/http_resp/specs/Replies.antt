-- The replies that the server makes itself.
use Rattle.std.specs.Prelude.{ℕ, true, false, [], ◌++◌, codes}
use Rattle.txt_core.specs.Names.{Bytes, Moment}
use Rattle.http_resp.specs.ResponseBytes.{response_bytes}
use Rattle.http_resp.specs.StatusLine.{status_text}
use Rattle.http_resp.specs.Statuses as statuses
use Rattle.http_resp.specs.declared.response.Response.{Response}

-- A line of plain text, with no output fields.
abbrev pub text_reply : ℕ → Bytes → Response
text_reply status text = record { status = status; fields = []; kind = codes "text/plain"; body = text ++ codes "\n" }

-- The plain reply of a status: it says the code and its reason phrase.
abbrev pub plain_reply : ℕ → Response
plain_reply status = text_reply status (status_text status)

-- The reply for want of memory, and the one where the server is busy: both have their body and close.
abbrev pub no_memory_bytes : Moment → Bytes
no_memory_bytes moment = response_bytes (text_reply statuses.service_unavailable (codes "out of memory")) moment false true

-- the bytes with which a request is refused by this status: the plain reply, and the connection closes
abbrev pub refusal_bytes : ℕ → Moment → Bytes
refusal_bytes status moment = response_bytes (plain_reply status) moment false true

abbrev pub busy_bytes : Moment → Bytes
busy_bytes moment = refusal_bytes statuses.service_unavailable moment
