-- How runs begin.
use Rattle.std.proofs.Common.{◌≡◌, ◌≤◌, ℕ, ◌+◌, ◌-◌, ◌*◌, ◌<◌, List, [], ◌∷◌, refl, sym, subst, ap, ◌∙◌, arith, Bool, true, Option, Some, None}
use Rattle.outside.specs.declared.question.Answer.{Answer}
use Rattle.cmd_table.specs.declared.definition.Def.{Def}
use Rattle.http_req.specs.declared.request.Request.{Request}
use Rattle.server_host.specs.declared.edition.Edition.{Edition}
use Rattle.server_host.specs.Hosts.{HostState, serving, scripting, defining}
use Rattle.server_host.specs.Leaf.{host_table}
use Rattle.tcl_eval.specs.State.{State, Given}
use Rattle.tcl_eval.specs.Eval.{eval}
use Rattle.tcl_eval.specs.Engine.{Lasts, at_global}
use Rattle.tcl_eval.specs.declared.outcome.Work.TheVariants as works
use Rattle.ictl.specs.Settle.{Run, Settled, account_of, settle}
use Rattle.ictl.specs.Defines.{define_end, no_inner}
use Rattle.ictl.specs.Fresh.{state_on, request_state, script_state, define_state, outset}
use Rattle.ictl.specs.Visits.{visit_by, visit_of, cleanups_of}
use Rattle.txt_core.specs.Limits.{run_budget}
use Rattle.ictl.specs.Main.{Progress, Stretch, run_questions, first_depth, full, visited, scripts, script_end, defined_end, Main, Script, Define, traces_from, behind}
use Rattle.ictl.specs.Interps.{interp_state, IsSound, IsFresh, IsNew, Holds}
use Rattle.ictl.specs.declared.settling.Settling.{Settling}
use Rattle.ictl.specs.declared.visit.Visit.{Visit}
use Rattle.ictl.specs.declared.ending.Ending.{Ending}
use Rattle.ictl.specs.declared.interp.Interp.{Interp}
use Rattle.ictl.proofs.Settles.{settle_same}

-- a new interpreter whose host has begun a run
pub begun_state : (names : List (List ℕ)) (i : Interp) (host : HostState) (begins : Edition → HostState) → IsFresh names i → host ≡ begins i.settling.run.engine.host.blueprint
    → (let s : State HostState = record (interp_state i) { host = host } in s) ≡ state_on names i.blueprint.value (begins i.blueprint.value)
begun_state names i host begins fresh is =
    ap (λ (s : State HostState). let t : State HostState = record s { host = host } in t) fresh.state
    ∙ ap (λ (h : HostState). state_on names i.blueprint.value h) (is ∙ ap begins (ap (λ (s : State HostState). s.host.blueprint) fresh.state))

-- what a request goes through in a new interpreter
pub visit_is : (names : List (List ℕ)) (i : Interp) (request : Request) (visit : Visit) → IsNew names i
    → visit ≡ visit_by i.authorises request i.blueprint.value.defs → visit ≡ visit_of names i.blueprint.value request
visit_is names i request visit new is = is ∙ ap (λ (b : Bool). visit_by b request i.blueprint.value.defs) new.0.authorises

-- the run of a request
pub request_begins : (names : List (List ℕ)) (blueprint : Edition) (request : Request) (moment : ℕ) (visit : Visit) (state : State HostState) (further : List Answer)
    → visit ≡ visit_of names blueprint request → state ≡ request_state names blueprint request moment
    → visited names blueprint moment visit state (full 0) further ≡ Main names blueprint request moment further
request_begins names blueprint request moment visit state further visit_so state_so =
    ap (λ (v : Visit). visited names blueprint moment v state (full 0) further) visit_so
    ∙ ap (λ (s : State HostState). visited names blueprint moment (visit_of names blueprint request) s (full 0) further) state_so

-- the run of a scheduled script
pub script_begins : (names : List (List ℕ)) (blueprint : Edition) (script : List ℕ) (moment questions : ℕ) (state : State HostState) (further : List Answer)
    → questions ≡ run_questions → state ≡ script_state names blueprint moment
    → script_end (scripts names blueprint moment script state (account_of run_budget questions 0) further) ≡ Script names blueprint script moment further
unfolding Script
script_begins names blueprint script moment questions state further all is =
    ap (λ (s : State HostState). script_end (scripts names blueprint moment script s (account_of run_budget questions 0) further)) is
    ∙ ap (λ (q : ℕ). script_end (scripts names blueprint moment script (script_state names blueprint moment) (account_of run_budget q 0) further)) all

-- the definition run of a script
pub define_begins : (names : List (List ℕ)) (blueprint : Edition) (script text : List ℕ) (moment questions : ℕ) (run : Run) (state : State HostState) (further : List Answer)
    → questions ≡ run_questions → ((given : Given) → run given ≡ eval names host_table first_depth (works.Script script) (at_global state) run_budget given)
    → state ≡ define_state names blueprint moment → script ≡ text
    → defined_end 0 (define_end (settle (no_inner names blueprint moment) questions 0 run further)) ≡ Define names blueprint text moment further
unfolding Define
define_begins names blueprint script text moment questions run state further all came is same =
    ap (λ (x : Settled). defined_end 0 (define_end x))
    (settle_same (no_inner names blueprint moment) questions 0 run (eval names host_table first_depth (works.Script script) (at_global state) run_budget) came further)
    ∙ ap (λ (s : State HostState). defined_end 0 (define_end (settle (no_inner names blueprint moment) questions 0 (eval names host_table first_depth (works.Script script) (at_global s) run_budget) further))) is
    ∙ ap (λ (s : List ℕ). defined_end 0 (define_end (settle (no_inner names blueprint moment) questions 0 (eval names host_table first_depth (works.Script s) (define_state names blueprint moment) run_budget) further))) same
    ∙ ap (λ (q : ℕ). defined_end 0 (define_end (settle (no_inner names blueprint moment) q 0 (eval names host_table first_depth (works.Script text) (define_state names blueprint moment) run_budget) further))) all

-- what runs behind the response that was written whole
pub behind_begins : (names : List (List ℕ)) (i : Interp) (request : Request) (ending : Ending) (inside : ℕ) (further : List Answer)
    → IsSound names i → i.visit ≡ visit_of names i.blueprint.value request
    → traces_from names i.blueprint.value i.moment i.visit.trace i.cleanups ending (interp_state i) (full inside) further
    ≡ behind names i.blueprint.value i.moment true request ending (interp_state i) inside further
behind_begins names i request ending inside further sound visit =
    ap (λ (v : Visit). traces_from names i.blueprint.value i.moment v.trace i.cleanups ending (interp_state i) (full inside) further) visit
    ∙ ap (λ (c : List (List ℕ)). traces_from names i.blueprint.value i.moment (visit_of names i.blueprint.value request).trace c ending (interp_state i) (full inside) further) sound.cleanups

-- an interpreter whose engine's host alone changed, beside what isn't told here
pub holds_hosted : (old : Interp) (between : Interp) → Lasts between.settling.run.engine old.settling.run.engine → between.blueprint.value ≡ old.blueprint.value → between.mark ≡ old.mark → between.routes ≡ old.routes → between.cleanups ≡ old.cleanups
    → between.authorises ≡ old.authorises → Holds between old
holds_hosted old between engine blueprint mark routes cleanups authorises = record { engine = engine; blueprint = blueprint; mark = mark; routes = routes; cleanups = cleanups; authorises = authorises }
