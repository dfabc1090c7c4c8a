-- What a request goes through, by the blueprint that it is served on.
use Rattle.std.specs.Prelude.{nat_eq, Bool, true, false, ◌&&◌, ◌||◌, List, [], ◌∷◌, ◌++◌, bytes_eq, codes, if◌then◌else◌, Option, Some, None}
use Rattle.std.specs.List.{ends_with}
use Rattle.txt_core.specs.Names.{Bytes, Words, Names}
use Rattle.cmd_table.specs.Table.{command_of}
use Rattle.cmd_table.specs.Commands.{Commands}
use Rattle.cmd_table.specs.declared.command.Cmd.{Cmd}
use Rattle.cmd_table.specs.declared.command.Cmd.TheVariants.{Built, Proc}
use Rattle.cmd_table.specs.declared.definition.Def.{Def}
use Rattle.cmd_table.specs.declared.definition.Def.TheVariants as defs
use Rattle.cmd_table.specs.declared.definition.When.{When}
use Rattle.cmd_table.specs.declared.definition.When.TheVariants.{Preauth, Postauth, Trace}
use Rattle.blueprint.specs.Scripts.{when_name}
use Rattle.url_tables.specs.Urls.{last_of}
use Rattle.url_tables.specs.Serving.{route}
use Rattle.url_tables.specs.Filters.{Filters}
use Rattle.http_req.specs.declared.request.Request.{Request}
use Rattle.conn_host.specs.Credentials.{credentials}
use Rattle.conn_host.specs.declared.authorization.Credentials.{Credentials}
use Rattle.conn_host.specs.RequestCommands.{path_of}
use Rattle.server_host.specs.declared.edition.Edition.{Edition}
use Rattle.ictl.specs.declared.visit.Serving.{Serving}
use Rattle.ictl.specs.declared.visit.Serving.TheVariants.{Procedure, Page, Nothing}
use Rattle.ictl.specs.declared.visit.Visit.{Visit}

-- ---- filters

-- a filter is called with its registered words, and then the name of its stage
abbrev pub filter_call : When → Words → Words
filter_call when words = words ++ when_name when ∷ []

-- the calls of the filters that a request passes at a stage, in the order of their registration
abbrev pub calls_of : When → List Words → List Words
calls_of when [] = []
calls_of when (words ∷ filters) = filter_call when words ∷ calls_of when filters

abbrev pub filter_calls : When → Request → List Def → List Words
filter_calls when request made = calls_of when (Filters when request.method (path_of request) made)

-- ---- authorisation

-- the procedure that says whether a request is allowed
abbrev pub authoriser : Bytes
authoriser = codes "ns_authorize"

-- its call: the method, the path, and the user and the password of the request
abbrev pub authorise_words : Request → Credentials → Words
authorise_words request shown = authoriser ∷ request.method ∷ path_of request ∷ shown.user ∷ shown.password ∷ []

abbrev pub authorise_call : Request → Words
authorise_call request = authorise_words request (credentials request.fields)

-- what has this name is a procedure
abbrev pub is_procedure : Option Cmd → Bool
is_procedure None = false
is_procedure (Some (Built name)) = false
is_procedure (Some (Proc params body)) = true

-- whether requests are authorised on natives of these names and these definitions: where `ns_authorize` is a procedure then
abbrev pub is_authorised : Names → List Def → Bool
is_authorised names made = is_procedure (command_of (Commands names made) authoriser)

-- the call, where a request is authorised
abbrev pub authorisation : Bool → Request → Option Words
authorisation authorised request = if authorised then Some (authorise_call request) else None

-- ---- what serves

-- pages are served to these methods
abbrev pub is_page_method : Bytes → Bool
is_page_method method = bytes_eq method (codes "GET") || bytes_eq method (codes "HEAD") || bytes_eq method (codes "POST")

-- a request for a page: its path's last segment ends so
abbrev pub is_page : Request → Bool
is_page request = is_page_method request.method && ends_with nat_eq (last_of request.segments) (codes ".adp")

-- without a registration a page is served, where the request is for one
abbrev pub serving_by : Option Words → Request → Serving
serving_by (Some words) request = Procedure words
serving_by None request = if is_page request then Page (path_of request) else Nothing

-- ---- cleanup

-- the cleanup scripts of definitions, in their order
abbrev pub cleanup_in : Def → Words
cleanup_in (defs.Cleanup script) = script ∷ []
cleanup_in (defs.Proc name params body) = []
cleanup_in (defs.Rename old new) = []
cleanup_in (defs.Route method url inherit words) = []
cleanup_in (defs.Filter when method pattern words) = []
cleanup_in (defs.Set name value) = []

abbrev pub cleanups_of : List Def → Words
cleanups_of [] = []
cleanups_of (def ∷ made) = cleanup_in def ++ cleanups_of made

-- ---- all together

-- no request
abbrev pub no_visit : Visit
no_visit = record { preauth = []; authorisation = None; postauth = []; serving = Nothing; trace = [] }

-- What a request goes through, by definitions, where requests are authorised or aren't. The declared `Visit` has the calls of its
-- filters at each stage, that of its authorisation, and what serves it.
abbrev pub visit_by : Bool → Request → List Def → Visit
visit_by authorised request made = record {
  preauth = filter_calls Preauth request made;
  authorisation = authorisation authorised request;
  postauth = filter_calls Postauth request made;
  serving = serving_by (route made request.method request.segments) request;
  trace = filter_calls Trace request made;
}

-- the same on natives of these names and a blueprint
abbrev pub visit_of : Names → Edition → Request → Visit
visit_of names blueprint request = visit_by (is_authorised names blueprint.defs) request blueprint.defs

-- this visit with the calls of a request's filters
abbrev pub filtered : Request → List Def → Visit → Visit
filtered request made visit = record visit {
  preauth = filter_calls Preauth request made;
  postauth = filter_calls Postauth request made;
  trace = filter_calls Trace request made;
}
