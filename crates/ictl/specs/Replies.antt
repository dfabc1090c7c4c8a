-- The responses that a request comes to, and what the results of filters and of the authorisation mean.
use Rattle.std.specs.Prelude.{ℕ, ◌==◌, ◌||◌, nat_lt, Bool, [], ◌∷◌, bytes_eq, codes, if◌then◌else◌, Option, Some, None}
use Rattle.txt_core.specs.Names.{Bytes}
use Rattle.http_resp.specs.declared.response.Response.{Response}
use Rattle.http_resp.specs.Replies.{plain_reply, text_reply}
use Rattle.http_resp.specs.Statuses as statuses
use Rattle.tcl_host.specs.Codes.{ok, return}
use Rattle.conn_host.specs.Conns.{output_fields}
use Rattle.server_host.specs.Hosts.{HostState}
use Rattle.ictl.specs.declared.ending.Verdict.{Verdict}
use Rattle.ictl.specs.declared.ending.Verdict.TheVariants.{Goes, Breaks, Returns, Fails}
use Rattle.ictl.specs.declared.ending.Access.{Access}
use Rattle.ictl.specs.declared.ending.Access.TheVariants.{Allowed, Unauthorized, Forbidden, Failed}

-- ---- responses

-- what fails gives the plain reply of 500, whatever response was given
abbrev pub failed : Response
failed = plain_reply statuses.internal_server_error

-- what is said of a run that was spent, and of one that was too deep
abbrev pub budget_spent : Bytes
budget_spent = codes "budget spent"

abbrev pub nesting_too_deep : Bytes
nesting_too_deep = codes "nesting too deep"

-- the replies of these
abbrev pub budget_reply : Response
budget_reply = text_reply statuses.internal_server_error budget_spent

abbrev pub nesting_reply : Response
nesting_reply = text_reply statuses.internal_server_error nesting_too_deep

-- The reply where the user isn't known. It has the one field that asks for credentials, and no output fields.
abbrev pub unauthorized : Response
unauthorized = record (plain_reply statuses.unauthorized) { fields = (codes "WWW-Authenticate", codes "Basic realm=\"server\"") ∷ [] }

-- the response that was given; without one the request failed
abbrev pub given_or_failed : Option Response → Response
given_or_failed None = failed
given_or_failed (Some response) = response

-- only codes 0 and 2 are good ends
abbrev pub is_good : ℕ → Bool
is_good code = code == ok || code == return

-- the response behind the procedure, by its code
abbrev pub procedure_reply : ℕ → Option Response → Response
procedure_reply code given = if is_good code then given_or_failed given else failed

-- what the pages put out, with the output fields as they are at the end
abbrev pub page_output : HostState → Response
page_output host =
    record { status = statuses.ok; fields = output_fields host.conn; kind = codes "text/html"; body = host.pages.output }

-- the response behind a first page: that which was given; without one the request failed where an error was recorded, and else it
-- is what the pages put out
abbrev pub page_or_given : HostState → Option Response → Response
page_or_given host (Some response) = response
page_or_given host None = if nat_lt 0 host.pages.errors then failed else page_output host

abbrev pub page_reply : HostState → Response
page_reply host = page_or_given host host.conn.response

-- ---- results

abbrev pub verdict_in : Bytes → Verdict
verdict_in result =
    if bytes_eq result (codes "filter_ok") then Goes
    else if bytes_eq result (codes "filter_break") then Breaks
    else if bytes_eq result (codes "filter_return") then Returns
    else Fails

-- what the code and the result of a filter mean
abbrev pub verdict : ℕ → Bytes → Verdict
verdict code result = if is_good code then verdict_in result else Fails

abbrev pub access_in : Bytes → Access
access_in result =
    if bytes_eq result (codes "ok") then Allowed
    else if bytes_eq result (codes "unauthorized") then Unauthorized
    else if bytes_eq result (codes "forbidden") then Forbidden
    else Failed

-- what the code and the result of the authorisation mean
abbrev pub access : ℕ → Bytes → Access
access code result = if is_good code then access_in result else Failed
