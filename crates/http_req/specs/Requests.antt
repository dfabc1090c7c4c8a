-- What a head and a body show, and what is wrong with it.
use Rattle.std.specs.Prelude.{ℕ, Bool, not, ◌||◌, length, map, nat_lt, if◌then◌else◌, Option, Some, None, codes}
use Rattle.std.specs.List.{list_any}
use Rattle.std.specs.Str.{bytes_eq}
use Rattle.httparse.specs.Grammar.{RequestHead}
use Rattle.httparse.specs.Spans.{name_and_value}
use Rattle.txt_core.specs.Names.{Bytes}
use Rattle.http_req.specs.declared.request.Request.{Request}
use Rattle.http_req.specs.Fields.{lengths, are_one_length, body_length, is_coded, is_mixed, has_host}
use Rattle.http_req.specs.Limits.{field_limit, body_limit}
use Rattle.http_req.specs.Statuses.{bad_request, content_too_large, fields_too_large, not_implemented}
use Rattle.http_req.specs.Targets.{is_target, segments_of, is_unsafe, query_of}

-- the request that the head, the body and the peer show
abbrev pub shown : RequestHead → Bytes → Bytes → Request
shown head body peer = record {
  method = head.method;
  target = head.target;
  segments = segments_of head.target;
  query = query_of head.target;
  minor = head.minor;
  fields = map name_and_value head.fields;
  body = body;
  peer = peer;
}

-- a method that is served
abbrev pub is_served : Bytes → Bool
is_served method =
    bytes_eq method (codes "GET") || bytes_eq method (codes "HEAD") || bytes_eq method (codes "POST")
    || bytes_eq method (codes "PUT") || bytes_eq method (codes "DELETE")

-- The status by which the request is refused for what its head says: that of the first of these
-- checks that it fails. Few fields; a method that is served; no transfer coding but chunks; no chunks
-- in HTTP/1.0 or beside a length; one length, of at most the limit; a host; a target of the two forms;
-- no segment that leads elsewhere.
unfoldable pub refusal : Request → Option ℕ
refusal request =
    if nat_lt field_limit (length request.fields) then Some fields_too_large
    else if not (is_served request.method) then Some not_implemented
    else if is_coded request.fields then Some not_implemented
    else if is_mixed request.minor request.fields then Some bad_request
    else if not (are_one_length (lengths request.fields)) then Some bad_request
    else if nat_lt body_limit (body_length request.fields) then Some content_too_large
    else if not (has_host request.minor request.fields) then Some bad_request
    else if not (is_target request.target) then Some bad_request
    else if list_any is_unsafe request.segments then Some bad_request
    else None
