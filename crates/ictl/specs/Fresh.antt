-- The state with which a run begins.
use Rattle.std.specs.Prelude.{ℕ, ◌+◌, Bool, List, [], ◌∷◌, ◌++◌, length, fold, if◌then◌else◌}
use Rattle.txt_core.specs.Names.{Names, Moment}
use Rattle.cmd_table.specs.Commands.{built_ins, built, defined, writes_at, Commands}
use Rattle.cmd_table.specs.Table.{Table}
use Rattle.cmd_table.specs.declared.definition.Def.{Def}
use Rattle.cmd_table.specs.declared.definition.Def.TheVariants.{Proc, Rename, Route, Filter, Cleanup, Set}
use Rattle.tcl_frame.specs.Names.{named, is_element}
use Rattle.tcl_frame.specs.Stack.{Kept}
use Rattle.tcl_frame.specs.Base.{at_base}
use Rattle.http_req.specs.declared.request.Request.{Request}
use Rattle.adp_host.specs.States.{without_pages}
use Rattle.server_host.specs.declared.edition.Edition.{Edition}
use Rattle.server_host.specs.Hosts.{HostState, with_pages, no_run, fresh, serving, scripting, defining}
use Rattle.tcl_eval.specs.State.{State}
use Rattle.tcl_eval.specs.Engine.{at_global}

-- ---- fresh states

-- the base scalar that a definition keeps, where it keeps one
abbrev pub keeps_in : Def → List Kept
keeps_in (Set name value) = if is_element (named name) then [] else (name, value) ∷ []
keeps_in (Proc name params body) = []
keeps_in (Rename old new) = []
keeps_in (Route method url inherit words) = []
keeps_in (Filter when method pattern words) = []
keeps_in (Cleanup script) = []

-- the base scalars that definitions keep, one after the other; of several of one name the last stands
abbrev pub keeps_of : List Def → List Kept
keeps_of [] = []
keeps_of (def ∷ defs) = keeps_in def ++ keeps_of defs

-- The state on natives of these names and a blueprint, with such a host: its commands, one global frame with its global scalars,
-- and nothing that was made.
abbrev pub state_on : Names → Edition → HostState → State HostState
state_on names blueprint host = record {
  commands = Commands names blueprint.defs;
  frames = at_base (keeps_of blueprint.defs);
  host = host;
  made = [];
}

-- The state of an interpreter that was newly made.
abbrev pub Fresh : Names → Edition → State HostState
Fresh names blueprint = state_on names blueprint (fresh blueprint)

-- The same, whatever the mark is, which stands beside the state.
abbrev pub fresh_but_marked : Names → Edition → Bool → State HostState
fresh_but_marked names blueprint marked = state_on names blueprint (no_run blueprint marked)

-- a fresh state behind further definitions
abbrev pub updated : List Def → State HostState → State HostState
updated defs state = record state {
  commands = fold defined state.commands defs;
  frames = at_base (state.frames.keeps ++ keeps_of defs);
}

-- ---- the beginnings of runs

-- a request that came at this moment
abbrev pub request_state : Names → Edition → Request → Moment → State HostState
request_state names blueprint request moment = state_on names blueprint (serving request moment blueprint)

-- a scheduled script
abbrev pub script_state : Names → Edition → Moment → State HostState
script_state names blueprint moment = state_on names blueprint (scripting moment blueprint)

-- a script that makes definitions
abbrev pub define_state : Names → Edition → Moment → State HostState
define_state names blueprint moment = state_on names blueprint (defining moment blueprint)

-- The state in which each script of a run begins: at the global frame and outside of every page, also where the one before was
-- cut off in the midst of them.
abbrev pub outset : State HostState → State HostState
outset state = record (at_global state) { host = with_pages state.host (without_pages state.host.pages) }

-- ---- steps

-- The entries that definitions write one after the other, from a table on; one that doesn't apply writes none.
abbrev pub writes_in : Table → List Def → ℕ
writes_in table [] = 0
writes_in table (def ∷ defs) = writes_at table def + writes_in (defined table def) defs

-- How many entries of a command table are written where an interpreter is made from a blueprint: one for each built-in name, those
-- of the natives among them, and those of its definitions.
abbrev pub build_steps : Names → List Def → ℕ
build_steps names defs = length built_ins + length names + writes_in (built names) defs
