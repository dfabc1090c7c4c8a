-- The commands that tell of the request. Without a connection they are an error, which goes behind the number of words and the
-- subcommand and before all else.
use Rattle.std.specs.Prelude.{ℕ, [], ◌∷◌, ◌++◌, length, take, drop, decimal, Bool, ◌||◌, ◌==◌, bytes_eq, codes, if◌then◌else◌, find, Option, Some, None, Ok, Err}
use Rattle.std.specs.List.{join_with_byte}
use Rattle.std.specs.Option.{option_map_or}
use Rattle.txt_core.specs.Names.{Bytes, Words}
use Rattle.txt_core.specs.Limits.{is_long}
use Rattle.txt_core.specs.ErrorTexts.{too_long}
use Rattle.txt_core.specs.Quoting.{quoting}
use Rattle.ns_sets.specs.Fields.{Field, ignoring_case, has_key}
use Rattle.ns_sets.specs.Sets.{fields_of}
use Rattle.http_req.specs.declared.request.Request.{Request}
use Rattle.tcl_host.specs.Leaf.{Leaf}
use Rattle.natives.specs.Words.{arg}
use Rattle.conn_host.specs.Conns.{ConnState, headers_set, output_set, form_set}
use Rattle.tcl_host.specs.Checks.{gives, shaped, no_subcommand}
use Rattle.conn_host.specs.Checks.{Checked, given, counted, connection, count}
use Rattle.conn_host.specs.Credentials.{credentials}
use Rattle.conn_host.specs.Ids.{set_id}
use Rattle.conn_host.specs.declared.conn_verb.ConnVerb.{ConnVerb}
use Rattle.conn_host.specs.declared.conn_verb.ConnVerb.TheVariants as verbs

-- ---- what is told

-- the path: a slash, and the segments with a slash between each two
abbrev pub path_of : Request → Bytes
path_of request = codes "/" ++ join_with_byte 47 request.segments

-- the version of HTTP
abbrev pub version_of : Request → Bytes
version_of request = if request.minor == 0 then codes "1.0" else codes "1.1"

-- method, target and version, with one space between each two
abbrev pub request_line : Request → Bytes
request_line request = request.method ++ codes " " ++ request.target ++ codes " " ++ version_of request

-- a part of the body is told where it isn't over the limit of a value
abbrev pub not_long : Bytes → Checked Bytes
not_long text = if is_long text then Err too_long else Ok text

-- so many bytes of a text from a place on, cut to what is there
abbrev pub bytes_from : Checked ℕ → Checked ℕ → Bytes → Checked Bytes
bytes_from (Ok first) (Ok most) text = not_long (take most (drop first text))
bytes_from (Ok first) (Err message) text = Err message
bytes_from (Err message) most text = Err message

-- `content` is the whole body, and `content FIRST COUNT` so many of its bytes from this place on
abbrev pub content : Words → Request → Checked Bytes
content words request =
    if length words == 2 then not_long request.body else bytes_from (count words 2) (count words 3) request.body

-- What each subcommand tells: the method; the path; what follows the first question mark of the target; the body; the peer; the
-- ids of the sets with which the run began; the length of the body; the list of the path's segments, and their number; the
-- version; the request line; user and password.
abbrev pub tells : ConnVerb → Words → Request → Checked Bytes
tells verbs.Method words request = Ok request.method
tells verbs.Url words request = Ok (path_of request)
tells verbs.Query words request = Ok request.query
tells verbs.Content words request = content words request
tells verbs.Peeraddr words request = Ok request.peer
tells verbs.Headers words request = Ok (set_id headers_set)
tells verbs.Outputheaders words request = Ok (set_id output_set)
tells verbs.Form words request = Ok (set_id form_set)
tells verbs.Contentlength words request = Ok (decimal (length request.body))
tells verbs.Urlv words request = Ok (quoting request.segments)
tells verbs.Urlc words request = Ok (decimal (length request.segments))
tells verbs.Version words request = Ok (version_of request)
tells verbs.Request words request = Ok (request_line request)
tells verbs.Authuser words request = Ok (credentials request.fields).user
tells verbs.Authpassword words request = Ok (credentials request.fields).password

-- ---- `ns_conn`

-- the subcommand of a name
abbrev pub conn_verb_of : Bytes → Option ConnVerb
conn_verb_of name =
    if bytes_eq name (codes "method") then Some verbs.Method
    else if bytes_eq name (codes "url") then Some verbs.Url
    else if bytes_eq name (codes "query") then Some verbs.Query
    else if bytes_eq name (codes "content") then Some verbs.Content
    else if bytes_eq name (codes "peeraddr") then Some verbs.Peeraddr
    else if bytes_eq name (codes "headers") then Some verbs.Headers
    else if bytes_eq name (codes "outputheaders") then Some verbs.Outputheaders
    else if bytes_eq name (codes "form") then Some verbs.Form
    else if bytes_eq name (codes "contentlength") then Some verbs.Contentlength
    else if bytes_eq name (codes "urlv") then Some verbs.Urlv
    else if bytes_eq name (codes "urlc") then Some verbs.Urlc
    else if bytes_eq name (codes "version") then Some verbs.Version
    else if bytes_eq name (codes "request") then Some verbs.Request
    else if bytes_eq name (codes "authuser") then Some verbs.Authuser
    else if bytes_eq name (codes "authpassword") then Some verbs.Authpassword
    else None

-- whether a subcommand may have so many words: both names, and of `content` two words more or none
abbrev pub conn_takes : ConnVerb → ℕ → Bool
conn_takes verbs.Method n = n == 2
conn_takes verbs.Url n = n == 2
conn_takes verbs.Query n = n == 2
conn_takes verbs.Content n = n == 2 || n == 4
conn_takes verbs.Peeraddr n = n == 2
conn_takes verbs.Headers n = n == 2
conn_takes verbs.Outputheaders n = n == 2
conn_takes verbs.Form n = n == 2
conn_takes verbs.Contentlength n = n == 2
conn_takes verbs.Urlv n = n == 2
conn_takes verbs.Urlc n = n == 2
conn_takes verbs.Version n = n == 2
conn_takes verbs.Request n = n == 2
conn_takes verbs.Authuser n = n == 2
conn_takes verbs.Authpassword n = n == 2

abbrev pub does_conn : ConnVerb → Words → ConnState → Leaf ConnState
does_conn verb words host = given (connection host) (λ request. given (tells verb words request) gives) host

abbrev pub by_conn_verb : Option ConnVerb → Words → ConnState → Leaf ConnState
by_conn_verb None words host = no_subcommand words host
by_conn_verb (Some verb) words host = shaped (conn_takes verb (length words)) words (does_conn verb words) host

-- `ns_conn SUBCOMMAND`, and `ns_conn content ?FIRST COUNT?`
abbrev pub ns_conn : Words → ConnState → Leaf ConnState
ns_conn words host = counted 2 4 words (by_conn_verb (conn_verb_of (arg words 1)) words) host

-- ---- `ns_queryget`

-- The value of the first field of the form with the key in the second word, ignoring case; where there is none, the third word,
-- or the empty text. A form that was freed has no field.
abbrev pub query_value : Words → ConnState → Bytes
query_value words host =
    option_map_or (λ (field : Field). field.1) (find (has_key ignoring_case (arg words 1)) (fields_of host.sets form_set))
    (arg words 2)

-- `ns_queryget KEY ?DEFAULT?`
abbrev pub ns_queryget : Words → ConnState → Leaf ConnState
ns_queryget words host =
    counted 2 3 words (given (connection host) (λ request host. gives (query_value words host) host)) host
