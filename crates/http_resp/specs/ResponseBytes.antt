-- The bytes of a response.
use Rattle.std.specs.Prelude.{ℕ, ◌==◌, Bool, ◌||◌, not, [], ◌∷◌, ◌++◌, length, codes, decimal, filter, if◌then◌else◌}
use Rattle.txt_core.specs.Names.{Bytes, Moment, Pairs}
use Rattle.http_resp.specs.Moment.{fixdate}
use Rattle.http_resp.specs.OutputFields.{field_lines, is_sent}
use Rattle.http_resp.specs.StatusLine.{status_line}
use Rattle.http_resp.specs.declared.response.Response.{Response}

-- A response of status 204 or 304 has no content (RFC 9110, sections 15.3.5 and 15.4.5).
abbrev pub has_content : ℕ → Bool
has_content status = not (status == 204 || status == 304)

-- What the content is, where there may be any. The length is the body's, also where only the head is
-- sent (RFC 9110, section 8.6).
unfoldable pub content_fields : Response → Pairs
content_fields response =
    if has_content response.status
    then (codes "Content-Type", response.kind) ∷ (codes "Content-Length", decimal (length response.body)) ∷ []
    else []

-- What the server calls itself.
abbrev pub server_name : Bytes
server_name = codes "AOLserver-profile/1"

-- Whether the connection stays open.
abbrev pub connection_field : Bool → Bytes × Bytes
connection_field close = (codes "Connection", if close then codes "close" else codes "keep-alive")

-- The fields of a head, in this order.
abbrev pub head_fields : Response → Moment → Bool → Pairs
head_fields response moment close =
    (codes "Date", fixdate moment)
    ∷ (codes "Server", server_name)
    ∷ filter is_sent response.fields
    ++ content_fields response
    ++ connection_field close ∷ []

-- The head: the status line, the fields and an empty line.
unfoldable pub head_bytes : Response → Moment → Bool → Bytes
head_bytes response moment close =
    status_line response.status ++ field_lines (head_fields response moment close) ++ codes "\r\n"

-- The head and then the body, or the head alone where the request asks for no more or the status has
-- no content.
unfoldable pub response_bytes : Response → Moment → Bool → Bool → Bytes
response_bytes response moment head_only close =
    head_bytes response moment close ++ (if head_only || not (has_content response.status) then [] else response.body)
