-- Whether a script, or a run, goes on.
use Rattle.std.specs.Prelude.{◌≡◌, ◌≢◌, ◌<◌, ℕ, ◌+◌, ◌-◌, List, length, [], None}
use Rattle.txt_core.specs.Names.{Bytes, Words, Names, Moment}
use Rattle.outside.specs.declared.question.Answer.{Answer}
use Rattle.server_host.specs.declared.edition.Edition.{Edition}
use Rattle.server_host.specs.Hosts.{HostState}
use Rattle.tcl_eval.specs.State.{State}
use Rattle.tcl_eval.specs.Engine.{IsNoPage}
use Rattle.ictl.specs.Settle.{Settled, settle}
use Rattle.ictl.specs.Defines.{inner_runs}
use Rattle.http_resp.specs.declared.response.Response.{Response}
use Rattle.tcl_host.specs.declared.host.HostReply.{HostReply}
use Rattle.tcl_host.specs.declared.host.HostReply.TheVariants as replies
use Rattle.tcl_eval.specs.declared.outcome.Work.{Work}
use Rattle.tcl_eval.specs.declared.outcome.Work.TheVariants as works
use Rattle.ictl.specs.Replies.{failed, budget_reply, nesting_reply}
use Rattle.ictl.specs.Main.{Progress, Stretch, responds, filter_end, defined_end}
use Rattle.ictl.specs.Standing.{comes_to, define_gives, settling_gives}
use Rattle.ictl.specs.declared.running.Stop.{Stop}
use Rattle.ictl.specs.declared.running.Stop.TheVariants as stops
use Rattle.ictl.specs.declared.defining.DefineRun.{DefineRun}
use Rattle.ictl.specs.declared.defining.DefineStop.{DefineStop}
use Rattle.ictl.specs.declared.ending.After.{After}
use Rattle.ictl.specs.declared.ending.After.TheVariants as afters
use Rattle.ictl.specs.declared.ending.Verdict.{Verdict}
use Rattle.ictl.specs.declared.ending.Ending.{Ending}
use Rattle.ictl.specs.declared.ending.Ending.TheVariants.{Answered, Spent, TooDeep}
use Rattle.ictl.specs.declared.settling.Settling.{Settling}
use Rattle.ictl.specs.declared.settling.Step.{Step}
use Rattle.ictl.specs.declared.settling.Step.TheVariants.{Goes, Stops}
use Rattle.ictl.specs.declared.visit.Visit.{Visit}
use Rattle.ictl.specs.declared.task.Task.{Task}
use Rattle.ictl.specs.declared.task.Task.TheVariants.{New, Preauth, Authorise, Postauth, PageAsked, Procedure, Page, Writing, Trace, Cleanup, Script, Define, Over}
use Rattle.ictl.specs.declared.task.Move.{Move}
use Rattle.ictl.specs.declared.task.Move.TheVariants as moves
use Rattle.ictl.specs.declared.interp.Interp.{Interp}

abbrev pub step_gives : Names → Edition → Moment → Step → Settling → ℕ → List Answer → Settled
step_gives names blueprint moment (Goes stop) s inside answers =
    settle (inner_runs names blueprint moment) s.questions inside (comes_to names stop s.run) answers
step_gives names blueprint moment (Stops stop) s inside answers = settling_gives names blueprint moment stop s inside answers

-- where a script goes on behind a run inside, there is none any more, and as many questions may be asked
abbrev pub Stays : Step → Settling → Settling → Type 0
Stays (Goes stop) new old = (new.inner ≡ None) × (new.questions ≡ old.questions)
Stays (Stops stop) new old = new.questions ≡ old.questions

-- the same behind a question, of which one less may be asked
abbrev pub GoesLower : Step → Settling → Settling → Type 0
GoesLower (Goes stop) new old = (new.inner ≡ None) × (new.questions < old.questions)
GoesLower (Stops stop) new old = Unit {0}

-- How many scripts of a part of a run may still be begun, at most: those behind the one that runs.
abbrev pub scripts_left : Visit → Words → Task → ℕ
scripts_left visit cleanups New = 0
scripts_left visit cleanups (Preauth next) = (length visit.preauth - next) + length visit.postauth + 3
scripts_left visit cleanups Authorise = length visit.postauth + 2
scripts_left visit cleanups (Postauth next) = (length visit.postauth - next) + 1
scripts_left visit cleanups (PageAsked path budget) = 0
scripts_left visit cleanups Procedure = 0
scripts_left visit cleanups Page = 0
scripts_left visit cleanups (Writing ending) = 0
scripts_left visit cleanups (Trace next ending) = (length visit.trace - next) + length cleanups + 1
scripts_left visit cleanups (Cleanup next ending) = length cleanups - next
scripts_left visit cleanups Script = 0
scripts_left visit cleanups (Define defining) = 0
scripts_left visit cleanups Over = 0

-- where a run goes on with a script, fewer may still be begun behind it
abbrev pub Lowers : Move → Interp → ℕ → Type 0
Lowers (moves.Goes stop) i before = scripts_left i.visit i.cleanups i.task < before
Lowers (moves.Stops next) i before = Unit {0}

-- where a run goes on with a script, fewer may still be begun behind it than behind this task
abbrev pub LowersIn : Task → Move → Interp → Interp → Type 0
LowersIn task step new old = Lowers step new (scripts_left old.visit old.cleanups task)

-- ---- what the functions of an interpreter speak of

-- the path of the first page that is asked for
abbrev pub asked_path : Task → Bytes
asked_path (PageAsked path budget) = path
asked_path New = []
asked_path (Preauth next) = []
asked_path Authorise = []
asked_path (Postauth next) = []
asked_path Procedure = []
asked_path Page = []
asked_path (Writing ending) = []
asked_path (Trace next ending) = []
asked_path (Cleanup next ending) = []
asked_path Script = []
asked_path (Define defining) = []
asked_path Over = []

-- a host's reply, which isn't want of memory, enters no page
abbrev pub EntersNone : HostReply → Type 0
EntersNone reply = IsNoPage reply × (reply ≢ replies.NoMemory)

-- it enters a page, of which this runs
abbrev pub EntersBy : Work → HostReply → Type 0
EntersBy work (replies.Done code result) = ⊥
EntersBy work (replies.Ask question) = ⊥
EntersBy work (replies.Enter pieces) = work ≡ works.Page pieces
EntersBy work (replies.Define def) = ⊥
EntersBy work (replies.Store name value result) = ⊥
EntersBy work replies.NotMine = ⊥
EntersBy work replies.NoMemory = ⊥

-- what comes where this follows a filter, by what comes where the next one is called, and where its stage is over
abbrev pub followed : Stretch → Stretch → After → Stretch
followed next behind afters.Next = next
followed next behind afters.Behind = behind
followed next behind (afters.Responds response) = responds response

-- This follows a filter that said so, in this state, whatever comes of the next one and behind the stage.
abbrev pub Follows : After → Verdict → State HostState → Type 0
Follows after said state = (next behind : Stretch) → followed next behind after state ≡ filter_end next behind said state

-- where a script was cut off that ended so, and the reply
abbrev pub cut_stop : Ending → Stop
cut_stop Answered = stops.Spent
cut_stop Spent = stops.Spent
cut_stop TooDeep = stops.TooDeep

abbrev pub cut_reply : Ending → Response
cut_reply Answered = failed
cut_reply Spent = budget_reply
cut_reply TooDeep = nesting_reply

-- what comes of a definition run that stands for itself, where it came to this
abbrev pub defined_gives : Names → DefineStop → DefineRun → ℕ → Interp → List Answer → Progress
defined_gives names stop defining inside i answers =
    defined_end inside (define_gives names i.blueprint.value i.moment stop i.settling.run defining answers)
