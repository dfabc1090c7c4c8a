-- What the host of a connection knows.
use Rattle.std.specs.Prelude.{ℕ, List, [], ◌∷◌, Option, Some, None}
use Rattle.txt_core.specs.Names.{Bytes, Moment}
use Rattle.ns_sets.specs.Fields.{Field}
use Rattle.ns_sets.specs.Sets.{fields_of}
use Rattle.ns_sets.specs.declared.set.Set.{Set}
use Rattle.http_req.specs.declared.request.Request.{Request}
use Rattle.http_resp.specs.declared.response.Response.{Response}
use Rattle.conn_host.specs.Forms.{form_of}

-- The state of the host.
pub record ConnState : Type 0 where
  -- the request that is served, where the run has a connection
  pub request : Option Request
  -- the sets by their numbers
  pub sets : List (Option Set)
  -- the channels by their numbers: of each open one the bytes not yet read
  pub channels : List (Option Bytes)
  -- the response that was given, if any
  pub response : Option Response
  -- the moment of the run, in seconds since 1970
  pub moment : Moment

-- a set without a name, of these fields
abbrev pub unnamed : List Field → Option Set
unnamed fields = Some (record { name = []; fields = fields })

-- the numbers of the sets with which a run begins
abbrev pub headers_set : ℕ
headers_set = 0

abbrev pub output_set : ℕ
output_set = 1

abbrev pub form_set : ℕ
form_set = 2

-- A run on a request begins with three sets: the fields of the request, none yet for the response, and the form.
abbrev pub serving : Request → Moment → ConnState
serving request moment = record {
  request = Some request;
  sets = unnamed request.fields ∷ unnamed [] ∷ unnamed (form_of request) ∷ [];
  channels = [];
  response = None;
  moment = moment;
}

-- A run without a connection begins as if these three had been made and freed.
abbrev pub without_connection : Moment → ConnState
without_connection moment =
    record { request = None; sets = None ∷ None ∷ None ∷ []; channels = []; response = None; moment = moment }

-- No run: no request, no set and no channel, and their numbers begin anew.
abbrev pub no_run : ConnState
no_run = record { request = None; sets = []; channels = []; response = None; moment = 0 }

abbrev pub with_sets : ConnState → List (Option Set) → ConnState
with_sets host sets = record host { sets = sets }

abbrev pub with_channels : ConnState → List (Option Bytes) → ConnState
with_channels host channels = record host { channels = channels }

abbrev pub with_response : ConnState → Response → ConnState
with_response host response = record host { response = Some response }

-- The output fields: those of the second set as they are now; none where it was freed.
abbrev pub output_fields : ConnState → List Field
output_fields host = fields_of host.sets output_set
