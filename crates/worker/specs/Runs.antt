-- Runs on a blueprint as it was found, each with one list of answers, and what is read off them.
use Rattle.std.specs.Prelude.{ℕ, Bool, true, false, List}
use Rattle.txt_core.specs.Names.{Bytes, Names, Moment}
use Rattle.outside.specs.declared.question.Answer.{Answer}
use Rattle.http_req.specs.declared.request.Request.{Request}
use Rattle.http_resp.specs.declared.response.Response.{Response}
use Rattle.http_resp.specs.ResponseBytes.{response_bytes}
pub use Rattle.server_host.specs.Hosts.{edition_of}
use Rattle.server_host.specs.Hosts.{HostState}
use Rattle.blueprint.specs.States as blueprints
use Rattle.tcl_eval.specs.State.{State}
use Rattle.tcl_eval.specs.declared.outcome.Outcome.{Outcome}
use Rattle.tcl_eval.specs.declared.outcome.Outcome.TheVariants as outcomes
use Rattle.ictl.specs.Main.{Progress, asks, writes, ends, Main, Script, Define, behind_response}
use Rattle.serving.specs.Connections.{is_head_only}
use Rattle.worker.specs.declared.served.ServedOutcome.{ServedOutcome}
use Rattle.worker.specs.declared.served.ServedOutcome.TheVariants.{Answered, Spent, TooDeep, NoMemory}

-- ---- requests

-- The run of a request to its end: up to its response on a fresh interpreter of the blueprint, and then behind it.
abbrev pub whole_run : Names → blueprints.State → Request → Moment → Bool → List Answer → Progress
whole_run names blueprint request moment whole answers =
    behind_response names (edition_of blueprint) moment whole request (Main names (edition_of blueprint) request moment answers)

-- How the run of a request went. Finished: the response was written whole, and what comes behind it was run to its end. CutShort: the
-- sink failed in the response, and nothing was run behind it. WantsBefore and WantsBehind: memory wanted, before the response was
-- written whole or behind that.
pub data Course : Type 0 where
  Finished : Course
  CutShort : Course
  WantsBefore : Course
  WantsBehind : Course

-- The run that is told of, by how it went: where memory wanted it goes with the answers as far as they reach.
abbrev pub run_in : Course → Names → blueprints.State → Request → Moment → List Answer → Progress
run_in Finished names blueprint request moment answers = whole_run names blueprint request moment true answers
run_in CutShort names blueprint request moment answers = whole_run names blueprint request moment false answers
run_in WantsBefore names blueprint request moment answers = Main names (edition_of blueprint) request moment answers
run_in WantsBehind names blueprint request moment answers = whole_run names blueprint request moment true answers

-- the bytes of a response to a request
abbrev pub bytes_for : Request → Response → Moment → Bool → Bytes
bytes_for request response moment close = response_bytes response moment (is_head_only request) close

-- ---- scripts

-- a scheduled script, and a script that makes definitions
abbrev pub script_run : Names → blueprints.State → Bytes → Moment → List Answer → Progress
script_run names blueprint script moment answers = Script names (edition_of blueprint) script moment answers

abbrev pub define_run : Names → blueprints.State → Bytes → Moment → List Answer → Progress
define_run names blueprint script moment answers = Define names (edition_of blueprint) script moment answers

-- ---- what is read off a run

abbrev pub progress_state : Progress → State HostState
progress_state (asks question state inside) = state
progress_state (writes response ending state inside left) = state
progress_state (ends outcome state inside left) = state

-- how many entries of their command tables the runs inside have written
abbrev pub inside_of : Progress → ℕ
inside_of (asks question state inside) = inside
inside_of (writes response ending state inside left) = inside
inside_of (ends outcome state inside left) = inside

-- the run ends with the mark set: its interpreter is to be built anew
abbrev pub is_marked : Progress → Bool
is_marked progress = (progress_state progress).host.marked

-- how a request ended, by the outcome of its run
abbrev pub served_outcome : Outcome → ServedOutcome
served_outcome (outcomes.Done code result) = Answered
served_outcome (outcomes.Asks question) = NoMemory
served_outcome outcomes.Spent = Spent
served_outcome outcomes.TooDeep = TooDeep
served_outcome outcomes.NoMemory = NoMemory
