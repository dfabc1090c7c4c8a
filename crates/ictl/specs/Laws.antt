-- What an interpreter gives where it stands, what a fresh state has, and how the runs go with the order of the stages.
use Rattle.std.specs.Prelude.{◌≡◌, ℕ, suc, Bool, true, false, List, [], drop, length, Option, Some, None}
use Rattle.std.specs.Option.{is_some}
use Rattle.txt_core.specs.Names.{Bytes, Words, Names, Moment}
use Rattle.outside.specs.declared.question.Answer.{Answer}
use Rattle.outside.specs.declared.question.Question.{Question}
use Rattle.cmd_table.specs.Commands.{Globals, Writes}
use Rattle.cmd_table.specs.Table.{Table}
use Rattle.cmd_table.specs.declared.definition.Def.{Def}
use Rattle.blueprint.specs.States.{first_misfit}
use Rattle.cmd_table.specs.declared.definition.When.TheVariants as when
use Rattle.http_req.specs.declared.request.Request.{Request}
use Rattle.http_resp.specs.declared.response.Response.{Response}
use Rattle.http_resp.specs.Replies.{plain_reply}
use Rattle.http_resp.specs.Statuses as statuses
use Rattle.tcl_frame.specs.Base.{base_of}
use Rattle.tcl_host.specs.Leaf.{Leaf, goes}
use Rattle.server_host.specs.declared.edition.Edition.{Edition}
use Rattle.server_host.specs.Hosts.{HostState}
use Rattle.tcl_eval.specs.State.{State}
use Rattle.stages.specs.declared.event.Counts.{Counts}
use Rattle.stages.specs.declared.event.Do.{Do}
use Rattle.stages.specs.declared.event.Do.TheVariants as stage
use Rattle.stages.specs.declared.event.Event.{Event}
use Rattle.stages.specs.declared.event.Event.TheVariants as event
use Rattle.stages.specs.Order.{following}
use Rattle.ictl.specs.Fresh.{keeps_of, writes_in}
use Rattle.ictl.specs.Settle.{Account}
use Rattle.ictl.specs.Replies.{failed, unauthorized, given_or_failed, procedure_reply, page_reply}
use Rattle.ictl.specs.Main.{Progress, Stretch, asks, writes, answered, both, ends, full, responds, filter_end, access_end, procedure_end, page_end, trace_end, unentered, page_entered, serve, filters_from, authorise, authorised, unauthorised, visited, traces_from, cleanups_from, behind, Main, Script, Define}
use Rattle.ictl.specs.Falls.{IsEnd}
use Rattle.ictl.specs.Interps.{gives, interp_state, ending_of}
use Rattle.ictl.specs.Visits.{visit_of, cleanups_of}
use Rattle.ictl.specs.declared.visit.Serving.TheVariants.{Nothing}
use Rattle.ictl.specs.declared.visit.Visit.{Visit}
use Rattle.ictl.specs.declared.ending.Ending.{Ending}
use Rattle.ictl.specs.declared.ending.Verdict.TheVariants.{Goes, Breaks, Returns, Fails}
use Rattle.ictl.specs.declared.ending.Access.TheVariants.{Allowed, Unauthorized, Forbidden, Failed}
use Rattle.ictl.specs.declared.interp.Interp.{Interp}
use Rattle.ictl.specs.declared.next.Next.TheVariants.{Asks, Write}

-- where it stands at a response, it gives this response, and all answers are left
abbrev pub WritingGivesTheResponse : Type 0
WritingGivesTheResponse =
    (names : Names) (response : Response) (i : Interp) (inside : ℕ) (further : List Answer)
    → gives names (Write response) inside i further ≡ writes response (ending_of i.task) (interp_state i) inside further

-- the base scalars that definitions keep are the global variables that they make
abbrev pub KeepsAreGlobals : Type 0
KeepsAreGlobals = (defs : List Def) → base_of (keeps_of defs) ≡ Globals defs

-- where the definitions of a blueprint apply one after the other, as those of a blueprint do, they write what each writes by itself
abbrev pub DefinitionsWrite : Type 0
DefinitionsWrite = (table : Table) (defs : List Def) → first_misfit table defs ≡ None → writes_in table defs ≡ Writes defs

-- ---- ends

-- where a run has ended, its outcome is an end: neither a question nor want of memory
abbrev pub EndsWell : Progress → Type 0
EndsWell (asks question state inside) = Unit {0}
EndsWell (writes response ending state inside left) = Unit {0}
EndsWell (ends outcome state inside left) = IsEnd outcome

pub record EndsAreEnds : Type 0 where
  pub main : (names : Names) (blueprint : Edition) (request : Request) (moment : Moment) (answers : List Answer) → EndsWell (Main names blueprint request moment answers)
  pub after : (names : Names) (blueprint : Edition) (moment : Moment) (whole : Bool) (request : Request) (ending : Ending) (state : State HostState) (inside : ℕ) (answers : List Answer) → EndsWell (behind names blueprint moment whole request ending state inside answers)
  pub script : (names : Names) (blueprint : Edition) (script : Bytes) (moment : Moment) (answers : List Answer) → EndsWell (Script names blueprint script moment answers)
  pub define : (names : Names) (blueprint : Edition) (script : Bytes) (moment : Moment) (answers : List Answer) → EndsWell (Define names blueprint script moment answers)

-- ---- one response

-- it doesn't stand at a response
abbrev pub IsSilent : Progress → Type 0
IsSilent (asks question state inside) = Unit {0}
IsSilent (writes response ending state inside left) = ⊥
IsSilent (ends outcome state inside left) = Unit {0}

-- no response is written behind the response, in a scheduled script or in a definition run
pub record OneResponse : Type 0 where
  pub after : (names : Names) (blueprint : Edition) (moment : Moment) (whole : Bool) (request : Request) (ending : Ending) (state : State HostState) (inside : ℕ) (answers : List Answer) → IsSilent (behind names blueprint moment whole request ending state inside answers)
  pub script : (names : Names) (blueprint : Edition) (script : Bytes) (moment : Moment) (answers : List Answer) → IsSilent (Script names blueprint script moment answers)
  pub define : (names : Names) (blueprint : Edition) (script : Bytes) (moment : Moment) (answers : List Answer) → IsSilent (Define names blueprint script moment answers)

-- ---- questions

-- where it stands at a question, it asks this question while it has no answer
abbrev pub QuestionsAreAsked : Type 0
QuestionsAreAsked =
    (names : Names) (question : Question) (i : Interp) (inside : ℕ)
    → (state : State HostState) × (within : ℕ) × (gives names (Asks question) inside i [] ≡ asks question state within)

-- ---- the order of the stages

-- how many filters and cleanup scripts a request has at each stage
abbrev pub counts_of : Visit → Words → Counts
counts_of visit cleanups = record {
  preauth = length visit.preauth;
  authorise = is_some visit.authorisation;
  postauth = length visit.postauth;
  trace = length visit.trace;
  cleanup = length cleanups;
}

module _ (names : Names) (blueprint : Edition) (moment : Moment) (visit : Visit) (cleanups : Words) (ending : Ending) where
  -- What a run does from here on, where this is to be done next. The response is written as what came before says, and so is given;
  -- behind it the run goes on to trace filters and cleanup scripts.
  abbrev pub from_here : Do → Stretch → Stretch
  from_here (stage.Filter when.Preauth place) write = filters_from names blueprint moment (drop place visit.preauth) (unauthorised names blueprint moment visit)
  from_here stage.Authorise write = unauthorised names blueprint moment visit
  from_here (stage.Filter when.Postauth place) write = filters_from names blueprint moment (drop place visit.postauth) (serve names blueprint moment visit.serving)
  from_here stage.Serve write = serve names blueprint moment visit.serving
  from_here stage.Write write = write
  from_here (stage.Filter when.Trace place) write = traces_from names blueprint moment (drop place visit.trace) cleanups ending
  from_here (stage.Cleanup place) write = cleanups_from names blueprint moment (drop place cleanups) ending
  from_here stage.End write = λ state account answers. ends (both ending answered) state account.inside answers

  abbrev pub from_next : Option Do → Stretch → Stretch
  from_next None write = write
  from_next (Some next) write = from_here next write

  -- what follows an event at what was asked last, by the order of the stages, where this is the response that is written
  abbrev pub goes_on : Event → Option Do → Stretch → Stretch
  goes_on happened asked write = from_next (following (counts_of visit cleanups) happened asked) write

  -- what comes behind the filter at a place of each stage, where it says that the next one follows
  abbrev pub behind_preauth : ℕ → Stretch
  behind_preauth place = filters_from names blueprint moment (drop (suc place) visit.preauth) (unauthorised names blueprint moment visit)

  abbrev pub behind_postauth : ℕ → Stretch
  behind_postauth place = filters_from names blueprint moment (drop (suc place) visit.postauth) (serve names blueprint moment visit.serving)

  abbrev pub behind_trace : ℕ → Stretch
  behind_trace place = traces_from names blueprint moment (drop (suc place) visit.trace) cleanups ending

-- The runs go in the order of the stages: what comes of a filter, of the authorisation, of what serves, of the response or of a cleanup
-- script is what follows it by that order. Where the response follows, it is the one that is told.
pub record FollowsTheStages (names : Names) (blueprint : Edition) (moment : Moment) (visit : Visit) (cleanups : Words) (ending : Ending) (write : Stretch) : Type 0 where
  pub begins : visited names blueprint moment visit ≡ goes_on names blueprint moment visit cleanups ending event.Begin None write
  -- preauth filters
  pub preauth_ok : (place : ℕ) → behind_preauth names blueprint moment visit cleanups ending place
      ≡ goes_on names blueprint moment visit cleanups ending event.FilterOk (Some (stage.Filter when.Preauth place)) write
  pub preauth_break : (place : ℕ) → unauthorised names blueprint moment visit
      ≡ goes_on names blueprint moment visit cleanups ending event.FilterBreak (Some (stage.Filter when.Preauth place)) write
  pub preauth_return : (place : ℕ) (state : State HostState)
      → filter_end (behind_preauth names blueprint moment visit cleanups ending place) (unauthorised names blueprint moment visit) Returns state
      ≡ goes_on names blueprint moment visit cleanups ending event.FilterReturn (Some (stage.Filter when.Preauth place)) (responds (given_or_failed state.host.conn.response)) state
  pub preauth_failed : (place : ℕ) (state : State HostState)
      → filter_end (behind_preauth names blueprint moment visit cleanups ending place) (unauthorised names blueprint moment visit) Fails state
      ≡ goes_on names blueprint moment visit cleanups ending event.Failed (Some (stage.Filter when.Preauth place)) (responds failed) state
  -- the authorisation
  pub allowed : authorised names blueprint moment visit ≡ goes_on names blueprint moment visit cleanups ending event.Allowed (Some stage.Authorise) write
  pub unknown : access_end (authorised names blueprint moment visit) Unauthorized
      ≡ goes_on names blueprint moment visit cleanups ending event.Denied (Some stage.Authorise) (responds unauthorized)
  pub forbidden : access_end (authorised names blueprint moment visit) Forbidden
      ≡ goes_on names blueprint moment visit cleanups ending event.Denied (Some stage.Authorise) (responds (plain_reply statuses.forbidden))
  pub access_failed : access_end (authorised names blueprint moment visit) Failed
      ≡ goes_on names blueprint moment visit cleanups ending event.Failed (Some stage.Authorise) (responds failed)
  -- postauth filters
  pub postauth_ok : (place : ℕ) → behind_postauth names blueprint moment visit cleanups ending place
      ≡ goes_on names blueprint moment visit cleanups ending event.FilterOk (Some (stage.Filter when.Postauth place)) write
  pub postauth_break : (place : ℕ) → serve names blueprint moment visit.serving
      ≡ goes_on names blueprint moment visit cleanups ending event.FilterBreak (Some (stage.Filter when.Postauth place)) write
  pub postauth_return : (place : ℕ) (state : State HostState)
      → filter_end (behind_postauth names blueprint moment visit cleanups ending place) (serve names blueprint moment visit.serving) Returns state
      ≡ goes_on names blueprint moment visit cleanups ending event.FilterReturn (Some (stage.Filter when.Postauth place)) (responds (given_or_failed state.host.conn.response)) state
  pub postauth_failed : (place : ℕ) (state : State HostState)
      → filter_end (behind_postauth names blueprint moment visit cleanups ending place) (serve names blueprint moment visit.serving) Fails state
      ≡ goes_on names blueprint moment visit cleanups ending event.Failed (Some (stage.Filter when.Postauth place)) (responds failed) state
  -- the procedure, or the page; or neither
  pub served : (code : ℕ) (result : Bytes) (state : State HostState)
      → procedure_end code result state ≡ goes_on names blueprint moment visit cleanups ending event.Served (Some stage.Serve) (responds (procedure_reply code state.host.conn.response)) state
  pub page_served : (code : ℕ) (result : Bytes) (state : State HostState)
      → page_end code result state ≡ goes_on names blueprint moment visit cleanups ending event.Served (Some stage.Serve) (responds (page_reply state.host)) state
  pub page_refused : (answer : Answer) (leaf : Leaf HostState) (state : State HostState) (account : Account) (left : List Answer)
      → page_entered names blueprint moment answer (goes leaf) state account left
      ≡ goes_on names blueprint moment visit cleanups ending event.Failed (Some stage.Serve) (responds (unentered answer)) state account left
  pub not_found : (state : State HostState) (account : Account) (left : List Answer)
      → serve names blueprint moment Nothing state account left
      ≡ goes_on names blueprint moment visit cleanups ending event.Failed (Some stage.Serve) (responds (plain_reply statuses.not_found)) state account left
  -- the response, written whole or not
  pub traced : traces_from names blueprint moment visit.trace cleanups ending
      ≡ goes_on names blueprint moment visit cleanups ending event.Written (Some stage.Write) write
  -- trace filters: only a break counts
  pub trace_ok : (place : ℕ) → behind_trace names blueprint moment visit cleanups ending place
      ≡ goes_on names blueprint moment visit cleanups ending event.FilterOk (Some (stage.Filter when.Trace place)) write
  pub trace_break : (place : ℕ) → cleanups_from names blueprint moment cleanups ending
      ≡ goes_on names blueprint moment visit cleanups ending event.FilterBreak (Some (stage.Filter when.Trace place)) write
  pub trace_return : (place : ℕ) → trace_end (behind_trace names blueprint moment visit cleanups ending place) (cleanups_from names blueprint moment cleanups ending) Returns
      ≡ goes_on names blueprint moment visit cleanups ending event.FilterReturn (Some (stage.Filter when.Trace place)) write
  pub trace_failed : (place : ℕ) → trace_end (behind_trace names blueprint moment visit cleanups ending place) (cleanups_from names blueprint moment cleanups ending) Fails
      ≡ goes_on names blueprint moment visit cleanups ending event.Failed (Some (stage.Filter when.Trace place)) write
  -- cleanup scripts
  pub cleaned : (place : ℕ) → cleanups_from names blueprint moment (drop (suc place) cleanups) ending
      ≡ goes_on names blueprint moment visit cleanups ending event.Ran (Some (stage.Cleanup place)) write

-- Behind the response of a request, which was written whole or not, comes what follows that by the order.
pub record FollowsTheResponse (names : Names) (blueprint : Edition) (moment : Moment) (request : Request) (ending : Ending) (write : Stretch) (state : State HostState) (inside : ℕ) (answers : List Answer) : Type 0 where
  pub whole : behind names blueprint moment true request ending state inside answers
      ≡ goes_on names blueprint moment (visit_of names blueprint request) (cleanups_of blueprint.defs) ending event.Written (Some stage.Write) write state (full inside) answers
  pub short : behind names blueprint moment false request ending state inside answers
      ≡ goes_on names blueprint moment (visit_of names blueprint request) (cleanups_of blueprint.defs) ending event.NotWritten (Some stage.Write) write state (full inside) answers

pub record RunsFollowTheStages : Type 0 where
  pub stages : (names : Names) (blueprint : Edition) (moment : Moment) (visit : Visit) (cleanups : Words) (ending : Ending) (write : Stretch)
      → FollowsTheStages names blueprint moment visit cleanups ending write
  pub response : (names : Names) (blueprint : Edition) (moment : Moment) (request : Request) (ending : Ending) (write : Stretch) (state : State HostState) (inside : ℕ) (answers : List Answer)
      → FollowsTheResponse names blueprint moment request ending write state inside answers
