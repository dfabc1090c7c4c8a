-- Sets that wait to be made, and what is done without them.
use Rattle.std.proofs.Common.{◌≡◌, refl, ap, subst, sym, ℕ, Bool, true, false, List, [], Option, Some, None, Result, Ok, Err}
use Rattle.http_req.specs.declared.request.Request.{Request}
use Rattle.http_resp.specs.declared.response.Response.{Response}
use Rattle.ns_sets.specs.Sets.{fields_of}
use Rattle.tcl_host.specs.Answers.{Replies}
use Rattle.tcl_host.specs.Leaf.{Leaf, says, wants, defines, stores, not_mine}
use Rattle.tcl_host.specs.Outcomes.{EndsWith}
use Rattle.tcl_host.specs.declared.host.HostReply.{HostReply}
use Rattle.natives.specs.declared.fault.Fault.{Fault}
use Rattle.natives.specs.declared.fault.Fault.TheVariants.{Error, NoMemory}
use Rattle.conn_host.specs.Conns.{ConnState, output_set, output_fields}
use Rattle.conn_host.specs.Responding.{respond, respond_where}
use Rattle.conn_host.specs.Waiting.{first_sets, seen}

none_put : (request : Option Request) → fields_of (first_sets request) output_set ≡ []
none_put None = refl
none_put (Some request) = refl

-- where the sets wait, no output field was put
pub no_output : (waits : Bool) (conn : ConnState) → waits ≡ true → output_fields (seen waits conn) ≡ []
no_output true conn is = none_put conn.request
no_output false conn is = absurd (let no : false ≡ true = is in cc)

-- where none waits, the sets are those that were made
pub all_made : (conn : ConnState) → seen false conn ≡ conn
all_made conn = refl

-- what is done where none waits any more
pub replies_made : (reply : HostReply) (leaf : ConnState → Leaf ConnState) (before made after : ConnState) → made ≡ before → Replies reply after (leaf made) → Replies reply (seen false after) (leaf before)
replies_made reply leaf before made after is replies =
    subst (λ (h : ConnState). Replies reply h (leaf before)) (sym (all_made after))
    (subst (λ (h : ConnState). Replies reply after (leaf h)) is replies)

-- what a host says of a command that goes on with a part of what it knows
abbrev in_host : (ConnState → ConnState) → Leaf ConnState → Leaf ConnState
in_host whole (says code result conn) = says code result (whole conn)
in_host whole (wants question conn) = wants question (whole conn)
in_host whole (defines def conn) = defines def (whole conn)
in_host whole (stores name value result conn) = stores name value result (whole conn)
in_host whole (not_mine conn) = not_mine (whole conn)

ends_in_host : (whole : ConnState → ConnState) (result : Result (List ℕ) Fault) (conn : ConnState) (leaf : Leaf ConnState) → EndsWith result conn leaf → EndsWith result (whole conn) (in_host whole leaf)
ends_in_host whole (Ok text) conn leaf e = ap (λ (l : Leaf ConnState). in_host whole l) e
ends_in_host whole (Err (Error message)) conn leaf e = ap (λ (l : Leaf ConnState). in_host whole l) e
ends_in_host whole (Err NoMemory) conn leaf e = tt

same_respond : (waits : Bool) (given : Option Response) (response : Response) (conn : ConnState) → in_host (seen waits) (respond_where given response conn) ≡ respond_where given response (seen waits conn)
same_respond waits None response conn = refl
same_respond waits (Some given) response conn = refl

-- a response is given alike, whether the sets wait or not
pub respond_seen : (waits : Bool) (result : Result (List ℕ) Fault) (response : Response) (before after : ConnState) → EndsWith result after (respond response before) → EndsWith result (seen waits after) (respond response (seen waits before))
respond_seen waits result response before after e =
    subst (λ (l : Leaf ConnState). EndsWith result (seen waits after) l) (same_respond waits before.response response before)
    (ends_in_host (seen waits) result after (respond response before) e)
