-- What the host of a run knows.
use Rattle.std.specs.Prelude.{ℕ, Bool, false, List, [], ◌++◌, Option, Some, None}
use Rattle.txt_core.specs.Names.{Words, Moment}
use Rattle.cmd_table.specs.declared.definition.Def.{Def}
use Rattle.http_req.specs.declared.request.Request.{Request}
use Rattle.conn_host.specs.Conns.{ConnState}
use Rattle.conn_host.specs.Conns as conns
use Rattle.adp_host.specs.States.{PageState, no_page_yet}
use Rattle.blueprint.specs.States.{State as BlueprintState, definitions}
use Rattle.server_host.specs.declared.edition.Edition.{Edition}
use Rattle.server_host.specs.declared.kind.Kind.{Kind}
use Rattle.server_host.specs.declared.kind.Kind.TheVariants as kinds

-- The state of the host.
pub record HostState : Type 0 where
  -- the kind of run, where there is one
  pub kind : Option Kind
  -- what is known of the connection, with the sets, the channels and the response
  pub conn : ConnState
  -- what is known of the pages
  pub pages : PageState
  -- the answers that an `nsv_names` under way has had
  pub gathered : Words
  -- the blueprint that the run is on
  pub blueprint : Edition
  -- The mark: the run, or the last one where there is none, asked that its interpreter be built anew. It stands beside the state
  -- of the run: what takes back all that a run left leaves it.
  pub marked : Bool

abbrev pub with_conn : HostState → ConnState → HostState
with_conn host conn = record host { conn = conn }

abbrev pub with_pages : HostState → PageState → HostState
with_pages host pages = record host { pages = pages }

abbrev pub with_gathered : HostState → Words → HostState
with_gathered host gathered = record host { gathered = gathered }

abbrev pub with_mark : HostState → Bool → HostState
with_mark host marked = record host { marked = marked }

abbrev pub with_blueprint : HostState → Edition → HostState
with_blueprint host blueprint = record host { blueprint = blueprint }

-- ---- no run

-- No run, on this blueprint and with this mark.
abbrev pub no_run : Edition → Bool → HostState
no_run blueprint marked = record {
  kind = None;
  conn = conns.no_run;
  pages = no_page_yet;
  gathered = [];
  blueprint = blueprint;
  marked = marked;
}

-- the host as it is newly made on a blueprint
abbrev pub fresh : Edition → HostState
fresh blueprint = no_run blueprint false

-- All that runs left is taken back. The blueprint stays, and so does the mark.
abbrev pub cleared : HostState → HostState
cleared host = no_run host.blueprint host.marked

-- a blueprint as it is published, as a run has it: its epoch and its definitions
abbrev pub edition_of : BlueprintState → Edition
edition_of state = record { epoch = state.epoch; defs = definitions state }

-- definitions are added to a blueprint, which has this epoch then
abbrev pub added : Edition → ℕ → List Def → Edition
added blueprint epoch defs = record { epoch = epoch; defs = blueprint.defs ++ defs }

-- ---- the beginnings of runs

-- A run begins with this connection and on this blueprint: no page has put out anything, nothing is gathered, and it isn't marked.
abbrev pub begun : Kind → ConnState → Edition → HostState
begun kind conn blueprint = record {
  kind = Some kind;
  conn = conn;
  pages = no_page_yet;
  gathered = [];
  blueprint = blueprint;
  marked = false;
}

-- a request that came at this moment is served
abbrev pub serving : Request → Moment → Edition → HostState
serving request moment blueprint = begun kinds.Serving (conns.serving request moment) blueprint

-- a scheduled script begins at this moment, without a connection
abbrev pub scripting : Moment → Edition → HostState
scripting moment blueprint = begun kinds.Scripting (conns.without_connection moment) blueprint

-- a script that makes definitions begins at this moment, without a connection
abbrev pub defining : Moment → Edition → HostState
defining moment blueprint = begun kinds.Defining (conns.without_connection moment) blueprint
