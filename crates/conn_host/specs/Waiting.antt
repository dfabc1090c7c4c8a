-- How a host sees the sets with which a run on a request begins, and which are made where a command first needs them.
use Rattle.std.specs.Prelude.{Bool, true, false, List, [], ◌∷◌, Option, Some, None}
use Rattle.txt_core.specs.Names.{Moment}
use Rattle.ns_sets.specs.declared.set.Set.{Set}
use Rattle.http_req.specs.declared.request.Request.{Request}
use Rattle.conn_host.specs.Conns.{ConnState, unnamed}
use Rattle.conn_host.specs.Forms.{form_of}

-- the sets with which a run begins on this request, if there is one
abbrev pub first_sets : Option Request → List (Option Set)
first_sets None = []
first_sets (Some request) = unnamed request.fields ∷ unnamed [] ∷ unnamed (form_of request) ∷ []

-- the sets of a run: where they wait, those with which it begins
abbrev pub sets_seen : Bool → Option Request → List (Option Set) → List (Option Set)
sets_seen true request sets = first_sets request
sets_seen false request sets = sets

-- what a host knows whose sets wait, or don't
abbrev pub seen : Bool → ConnState → ConnState
seen waits conn = record conn { sets = sets_seen waits conn.request conn.sets }

-- a run on a request whose sets aren't made yet
abbrev pub unset : Request → Moment → ConnState
unset request moment = record { request = Some request; sets = []; channels = []; response = None; moment = moment }
