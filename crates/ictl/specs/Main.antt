-- The runs of an interpreter: a request up to its response and behind it, a scheduled script, and a definition run.
use Rattle.std.specs.Prelude.{ℕ, ◌+◌, ◌*◌, List, [], ◌∷◌, Bool, true, false, codes, Option, Some, None}
use Rattle.txt_core.specs.Names.{Bytes, Words, Names, Moment}
use Rattle.txt_core.specs.Limits.{bucket_count, run_budget}
use Rattle.outside.specs.declared.question.Answer.{Answer}
use Rattle.outside.specs.declared.question.Answer.TheVariants as kinds
use Rattle.outside.specs.declared.question.Question.{Question}
use Rattle.http_req.specs.declared.request.Request.{Request}
use Rattle.http_resp.specs.declared.response.Response.{Response}
use Rattle.http_resp.specs.Replies.{plain_reply}
use Rattle.http_resp.specs.Statuses as statuses
use Rattle.tcl_host.specs.Codes as code_of
use Rattle.tcl_host.specs.Leaf.{Onward, goes, enters}
pub use Rattle.tcl_host.specs.Pages.{page_question}
use Rattle.server_host.specs.declared.edition.Edition.{Edition}
use Rattle.server_host.specs.Hosts.{HostState}
use Rattle.server_host.specs.Leaf.{host_table}
use Rattle.tcl_eval.specs.State.{State}
use Rattle.tcl_eval.specs.Eval.{eval, with_host}
use Rattle.tcl_eval.specs.Engine.{at_global}
use Rattle.tcl_eval.specs.declared.outcome.Work.{Work}
use Rattle.tcl_eval.specs.declared.outcome.Work.TheVariants as works
use Rattle.tcl_eval.specs.declared.outcome.Outcome.{Outcome}
use Rattle.tcl_eval.specs.declared.outcome.Outcome.TheVariants as outcomes
use Rattle.ictl.specs.Fresh.{request_state, script_state, outset}
use Rattle.ictl.specs.Settle.{Account, account_of, Settled, ended, asking, exhausted, nested, Defined, said, stands, gone, sunk, settle}
use Rattle.ictl.specs.Defines.{Define as define_run, inner_runs}
use Rattle.ictl.specs.Replies.{failed, budget_reply, nesting_reply, unauthorized, given_or_failed, procedure_reply, page_reply, verdict, access}
use Rattle.ictl.specs.Visits.{visit_of, cleanups_of}
use Rattle.ictl.specs.declared.visit.Serving.{Serving}
use Rattle.ictl.specs.declared.visit.Serving.TheVariants.{Procedure, Page, Nothing}
use Rattle.ictl.specs.declared.visit.Visit.{Visit}
use Rattle.ictl.specs.declared.ending.Ending.{Ending}
use Rattle.ictl.specs.declared.ending.Ending.TheVariants.{Answered, Spent, TooDeep}
use Rattle.ictl.specs.declared.ending.Verdict.{Verdict}
use Rattle.ictl.specs.declared.ending.Verdict.TheVariants.{Goes, Breaks, Returns, Fails}
use Rattle.ictl.specs.declared.ending.Access.{Access}
use Rattle.ictl.specs.declared.ending.Access.TheVariants.{Allowed, Unauthorized, Forbidden, Failed}

-- How far a run comes with the answers that are given.
pub data Progress : Type 0 where
  -- it stands at this question
  asks : (question : Question) (state : State HostState) (inside : ℕ) → Progress
  -- it stands where this response is to be written, and how it ended so far; these answers are left
  writes : (response : Response) (ending : Ending) (state : State HostState) (inside : ℕ) (left : List Answer) → Progress
  -- it has ended, and these answers are left
  ends : (outcome : Outcome) (state : State HostState) (inside : ℕ) (left : List Answer) → Progress

-- how many questions a run may ask in its budget, which is that of a request up to its response, and anew behind it, of a
-- scheduled script, and of a definition run in all: one for each command, or one for each bucket, and one more for each
abbrev pub run_questions : ℕ
run_questions = (bucket_count + 1) * run_budget

-- where the first script or call of a run stands, and the blocks of a first page
abbrev pub first_depth : ℕ
first_depth = 1

-- an account from which nothing was taken, where the runs inside have written so much
abbrev pub full : ℕ → Account
full inside = account_of run_budget run_questions inside

-- what comes of a stretch of a run, from a state on
abbrev pub Stretch : Type 0
Stretch = State HostState → Account → List Answer → Progress

-- what comes of a script's code and result
abbrev pub Then : Type 0
Then = ℕ → Bytes → Stretch

-- ---- endings

-- how a run that was answered ends
abbrev pub answered : Outcome
answered = outcomes.Done code_of.ok []

-- the outcome of both parts: that of the first unless it was answered, else that of the second
abbrev pub both : Ending → Outcome → Outcome
both Answered after = after
both Spent after = outcomes.Spent
both TooDeep after = outcomes.TooDeep

-- a response that is to be written where nothing cut the run off
abbrev pub responds : Response → Stretch
responds response state account left = writes response Answered state account.inside left

-- ---- what follows a script

-- up to the response: where it was spent or too deep, a reply says so, whatever response was given
abbrev pub main_on : Settled → Then → Progress
main_on (ended code result state account left) go = go code result state account left
main_on (asking question state inside) go = asks question state inside
main_on (exhausted state inside left) go = writes budget_reply Spent state inside left
main_on (nested state inside left) go = writes nesting_reply TooDeep state inside left

-- behind the response: where it was spent or too deep, the rest of the run isn't run
abbrev pub after_on : Ending → Settled → Then → Progress
after_on ending (ended code result state account left) go = go code result state account left
after_on ending (asking question state inside) go = asks question state inside
after_on ending (exhausted state inside left) go = ends (both ending outcomes.Spent) state inside left
after_on ending (nested state inside left) go = ends (both ending outcomes.TooDeep) state inside left

-- a filter before the response: the next one follows; or what is behind its stage; or the response, as it was given; or it failed
abbrev pub filter_end : Stretch → Stretch → Verdict → Stretch
filter_end next behind Goes state = next state
filter_end next behind Breaks state = behind state
filter_end next behind Returns state = responds (given_or_failed state.host.conn.response) state
filter_end next behind Fails state = responds failed state

-- the authorisation
abbrev pub access_end : Stretch → Access → Stretch
access_end next Allowed = next
access_end next Unauthorized = responds unauthorized
access_end next Forbidden = responds (plain_reply statuses.forbidden)
access_end next Failed = responds failed

-- the procedure
abbrev pub procedure_end : Then
procedure_end code result state = responds (procedure_reply code state.host.conn.response) state

-- the first page
abbrev pub page_end : Then
page_end code result state = responds (page_reply state.host) state

-- a filter behind the response: only a break counts, which ends its stage
abbrev pub trace_end : Stretch → Stretch → Verdict → Stretch
trace_end next behind Breaks = behind
trace_end next behind Goes = next
trace_end next behind Returns = next
trace_end next behind Fails = next

-- a scheduled script
abbrev pub script_end : Settled → Progress
script_end (ended code result state account left) = ends (outcomes.Done code result) state account.inside left
script_end (asking question state inside) = asks question state inside
script_end (exhausted state inside left) = ends outcomes.Spent state inside left
script_end (nested state inside left) = ends outcomes.TooDeep state inside left

-- what a definition run said, as an outcome
abbrev pub outcome_of : Answer → Outcome
outcome_of (kinds.Said text) = outcomes.Done code_of.ok text
outcome_of (kinds.Failed why) = outcomes.Done code_of.error why
outcome_of (kinds.Page page) = outcomes.Done code_of.error []
outcome_of kinds.NoPage = outcomes.Done code_of.error []
outcome_of kinds.PageFault = outcomes.Done code_of.error []

-- a definition run, inside which nothing runs: what others wrote stays as it was
abbrev pub defined_end : ℕ → Defined → Progress
defined_end inside (said answer budget state left) = ends (outcome_of answer) state inside left
defined_end inside (stands question state) = asks question state inside
defined_end inside (gone state left) = ends outcomes.Spent state inside left
defined_end inside (sunk state left) = ends outcomes.TooDeep state inside left

-- ---- first pages

-- a first page is entered as an included one is, by these words
abbrev pub page_words : Bytes → Words
page_words path = codes "ns_adp_include" ∷ path ∷ []

-- a page that isn't there is not found; what can't be read, or is too long, failed
abbrev pub unentered : Answer → Response
unentered kinds.NoPage = plain_reply statuses.not_found
unentered (kinds.Said text) = failed
unentered (kinds.Failed why) = failed
unentered (kinds.Page page) = failed
unentered kinds.PageFault = failed

module _ (names : Names) (blueprint : Edition) (moment : Moment) where
  -- A script, a call or a page, from a state on, with what is left of an account.
  abbrev pub runs : Work → State HostState → Account → List Answer → Settled
  runs work state account answers =
      settle (inner_runs names blueprint moment) account.questions account.inside
      (eval names host_table first_depth work state account.budget) answers

  -- A call or a script, which begins at the global frame and outside of every page.
  abbrev pub calls : Words → State HostState → Account → List Answer → Settled
  calls words state account answers = runs (works.Call words) (outset state) account answers

  abbrev pub scripts : Bytes → State HostState → Account → List Answer → Settled
  scripts script state account answers = runs (works.Script script) (outset state) account answers

  -- ---- up to the response

  -- the answer for a first page, which costs nothing, enters it or doesn't
  abbrev pub page_entered : Answer → Onward HostState → Stretch
  page_entered answer (enters pieces host) state account left =
      main_on (runs (works.Page pieces) (at_global (with_host state host)) account left) page_end
  page_entered answer (goes leaf) state account left = responds (unentered answer) state account left

  -- a run that stands at the question for a first page
  abbrev pub page_asked : Question → Bytes → Stretch
  page_asked question path state account [] = asks question state account.inside
  page_asked question path state account (answer ∷ left) =
      page_entered answer (host_table.answers (page_words path) answer state.host) state account left

  -- the procedure is called, or the page asked for; what is neither is not found
  abbrev pub serve : Serving → Stretch
  serve (Procedure words) state account answers = main_on (calls words state account answers) procedure_end
  serve (Page path) state account answers = page_asked (page_question path) path (outset state) account answers
  serve Nothing state account answers = responds (plain_reply statuses.not_found) state account answers

  -- the filters of a stage, and then what is behind it
  abbrev pub filters_from : List Words → Stretch → Stretch
  filters_from [] behind state account answers = behind state account answers
  filters_from (call ∷ more) behind state account answers =
      main_on (calls call state account answers)
      (λ code result. filter_end (filters_from more behind) behind (verdict code result))

  -- the authorisation, where there is one
  abbrev pub authorise : Option Words → Stretch → Stretch
  authorise None behind state account answers = behind state account answers
  authorise (Some call) behind state account answers =
      main_on (calls call state account answers) (λ code result. access_end behind (access code result))

  -- behind the authorisation: the postauth filters, and what serves
  abbrev pub authorised : Visit → Stretch
  authorised visit = filters_from visit.postauth (serve visit.serving)

  -- behind the preauth filters
  abbrev pub unauthorised : Visit → Stretch
  unauthorised visit = authorise visit.authorisation (authorised visit)

  -- the whole request
  abbrev pub visited : Visit → Stretch
  visited visit = filters_from visit.preauth (unauthorised visit)

  -- ---- behind the response

  -- the cleanup scripts, whatever comes of each
  abbrev pub cleanups_from : Words → Ending → Stretch
  cleanups_from [] ending state account answers = ends (both ending answered) state account.inside answers
  cleanups_from (script ∷ more) ending state account answers =
      after_on ending (scripts script state account answers) (λ code result. cleanups_from more ending)

  -- the trace filters, and then these cleanup scripts
  abbrev pub traces_from : List Words → Words → Ending → Stretch
  traces_from [] cleanups ending state account answers = cleanups_from cleanups ending state account answers
  traces_from (call ∷ more) cleanups ending state account answers =
      after_on ending (calls call state account answers)
      (λ code result. trace_end (traces_from more cleanups ending) (cleanups_from cleanups ending) (verdict code result))

  -- The run of a request behind a response that was written whole, from the state then, by how the run ended up to there: with a
  -- budget anew.
  abbrev pub After : Request → Ending → State HostState → ℕ → List Answer → Progress
  After request ending state inside answers =
      traces_from (visit_of names blueprint request).trace (cleanups_of blueprint.defs) ending state (full inside) answers

  -- What comes behind the response, which was written whole or not: where it wasn't, nothing runs.
  abbrev pub behind : Bool → Request → Ending → State HostState → ℕ → List Answer → Progress
  behind true request ending state inside answers = After request ending state inside answers
  behind false request ending state inside answers = ends (both ending answered) state inside answers

  -- where its response stands ready, the run goes on as behind one that was written, whole or not
  abbrev pub behind_response : Bool → Request → Progress → Progress
  behind_response whole request (asks question state inside) = asks question state inside
  behind_response whole request (writes response ending state inside left) = behind whole request ending state inside left
  behind_response whole request (ends outcome state inside left) = ends outcome state inside left

-- The run of a request up to its response, on natives of these names and a blueprint, at a moment, with these answers.
abbrev pub Main : Names → Edition → Request → Moment → List Answer → Progress
Main names blueprint request moment answers =
    visited names blueprint moment (visit_of names blueprint request) (request_state names blueprint request moment) (full 0) answers

-- The run of a scheduled script. No filter and no cleanup script follows.
unfoldable pub Script : Names → Edition → Bytes → Moment → List Answer → Progress
Script names blueprint script moment answers =
    script_end (scripts names blueprint moment script (script_state names blueprint moment) (full 0) answers)

-- The definition run of a script that stands for itself, as a start script does.
unfoldable pub Define : Names → Edition → Bytes → Moment → List Answer → Progress
Define names blueprint script moment answers =
    defined_end 0 (define_run names blueprint moment script run_budget run_questions first_depth answers)
