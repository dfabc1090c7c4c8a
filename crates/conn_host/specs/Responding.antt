-- The commands that give the response of a run. In this order they look at the number of words, the connection, their words from
-- left to right, and whether a response was given. The output fields are those of the second set at that moment.
use Rattle.std.specs.Prelude.{ℕ, ℤ, pos, negsuc, [], ◌∷◌, Bool, not, ◌&&◌, ◌||◌, ◌==◌, nat_le, codes, if◌then◌else◌, Option, Some, None, Ok, Err}
use Rattle.std.specs.List.{list_all, list_any}
use Rattle.txt_core.specs.Names.{Bytes, Words}
use Rattle.txt_core.specs.ErrorTexts.{response_given}
use Rattle.txt_core.specs.Texts.{is_filled}
use Rattle.http_resp.specs.Replies.{plain_reply}
use Rattle.http_resp.specs.Statuses as statuses
use Rattle.http_resp.specs.declared.response.Response.{Response}
use Rattle.tcl_host.specs.Leaf.{Leaf}
use Rattle.natives.specs.Words.{arg}
use Rattle.conn_host.specs.Conns.{ConnState, with_response, output_fields}
use Rattle.tcl_host.specs.Checks.{gives, fails, unfit, integer}
use Rattle.conn_host.specs.Checks.{Checked, given, counted, connection}

abbrev pub respond_where : Option Response → Response → ConnState → Leaf ConnState
respond_where None response host = gives [] (with_response host response)
respond_where (Some before) response host = fails response_given host

-- a run gives one response at most; the result is empty
abbrev pub respond : Response → ConnState → Leaf ConnState
respond response host = respond_where host.response response host

-- ---- `ns_return`

-- a status of a response is from 200 to 599
abbrev pub status_of : Checked ℤ → Words → Checked ℕ
status_of (Ok (pos n)) words = if nat_le 200 n && nat_le n 599 then Ok n else Err (unfit words 1)
status_of (Ok (negsuc n)) words = Err (unfit words 1)
status_of (Err message) words = Err message

-- the second word is a status
abbrev pub status : Words → Checked ℕ
status words = status_of (integer words 1) words

-- a byte below 32, or byte 127
abbrev pub is_control : ℕ → Bool
is_control byte = nat_le byte 31 || byte == 127

-- a type holds no such byte
abbrev pub is_kind : Bytes → Bool
is_kind text = not (list_any is_control text)

-- the third word is a type
abbrev pub kind : Words → Checked Bytes
kind words = if is_kind (arg words 2) then Ok (arg words 2) else Err (unfit words 2)

-- the response of this status and this type, with the fourth word as its body
abbrev pub typed : ℕ → Bytes → Words → ConnState → Response
typed status kind words host = record { status = status; fields = output_fields host; kind = kind; body = arg words 3 }

-- `ns_return STATUS TYPE TEXT` gives the response of this status, this type and this body
abbrev pub ns_return : Words → ConnState → Leaf ConnState
ns_return words host =
    counted 4 4 words
    (given (connection host) (λ request.
    given (status words) (λ status.
    given (kind words) (λ kind host.
    respond (typed status kind words host) host)))) host

-- ---- `ns_returnredirect`

-- a byte of a URL: one that shows and is of ASCII
abbrev pub is_shown : ℕ → Bool
is_shown byte = nat_le 33 byte && nat_le byte 126

-- a URL has a byte, and each is such a one
abbrev pub is_url : Bytes → Bool
is_url text = is_filled text && list_all is_shown text

-- the second word is a URL
abbrev pub url : Words → Checked Bytes
url words = if is_url (arg words 1) then Ok (arg words 1) else Err (unfit words 1)

-- the plain reply of 302, with the field Location in front of the output fields
abbrev pub redirection : Bytes → ConnState → Response
redirection url host = record (plain_reply statuses.found) { fields = (codes "Location", url) ∷ output_fields host }

-- `ns_returnredirect URL` gives that reply
abbrev pub ns_returnredirect : Words → ConnState → Leaf ConnState
ns_returnredirect words host =
    counted 2 2 words
    (given (connection host) (λ request. given (url words) (λ url host. respond (redirection url host) host))) host

-- ---- `ns_returnnotfound`

-- the plain reply of 404, with the output fields
abbrev pub not_found : ConnState → Response
not_found host = record (plain_reply statuses.not_found) { fields = output_fields host }

-- `ns_returnnotfound` gives that reply
abbrev pub ns_returnnotfound : Words → ConnState → Leaf ConnState
ns_returnnotfound words host =
    counted 1 1 words (given (connection host) (λ request host. respond (not_found host) host)) host
