-- What an interpreter is, and what it stands for.
use Rattle.std.specs.Prelude.{◌≡◌, ◌≤◌, ℕ, ◌+◌, ◌-◌, ◌*◌, List, [], ◌∷◌, ◌++◌, drop, Bool, Option, Some, None}
use Rattle.std.specs.Option.{option_map}
use Rattle.txt_core.specs.Names.{Names, Moment}
use Rattle.outside.specs.declared.question.Answer.{Answer}
use Rattle.outside.specs.declared.question.Question.{Question}
use Rattle.cmd_table.specs.Table.{mark_of, table_at}
use Rattle.cmd_table.specs.Commands.{Commands, Writes}
use Rattle.cmd_table.specs.declared.definition.Def.{Def}
use Rattle.blueprint.specs.States.{first_misfit}
use Rattle.http_req.specs.declared.request.Request.{Request}
use Rattle.url_tables.specs.Tables.{IsBuiltOf}
use Rattle.server_host.specs.declared.edition.Edition.{Edition}
use Rattle.server_host.specs.Hosts.{HostState, with_blueprint, added}
use Rattle.tcl_eval.specs.State.{State}
use Rattle.tcl_eval.specs.Engine.{Lasts, IsIdle}
use Rattle.tcl_eval.specs.declared.outcome.Outcome.TheVariants as outcomes
use Rattle.ictl.specs.Fresh.{fresh_but_marked, keeps_of}
use Rattle.ictl.specs.Settle.{account_of, Settled}
use Rattle.ictl.specs.Replies.{verdict, access}
use Rattle.ictl.specs.Visits.{cleanups_of, is_authorised, no_visit, visit_of}
use Rattle.ictl.specs.Main.{Stretch, Progress, asks, writes, ends, main_on, after_on, filter_end, access_end, procedure_end, page_end, trace_end, script_end, defined_end, page_asked, serve, filters_from, authorised, unauthorised, traces_from, cleanups_from, behind}
use Rattle.ictl.specs.Standing.{state_of, define_at, settling_gives, written}
use Rattle.ictl.specs.declared.running.Stop.{Stop}
use Rattle.ictl.specs.declared.running.Stop.TheVariants as stops
use Rattle.ictl.specs.declared.ending.Ending.{Ending}
use Rattle.ictl.specs.declared.ending.Ending.TheVariants.{Answered}
use Rattle.ictl.specs.declared.ending.Verdict.{Verdict}
use Rattle.ictl.specs.declared.ending.Access.{Access}
use Rattle.ictl.specs.declared.task.Task.{Task}
use Rattle.ictl.specs.declared.task.Task.TheVariants.{New, Preauth, Authorise, Postauth, PageAsked, Procedure, Page, Writing, Trace, Cleanup, Script, Define, Over}
use Rattle.ictl.specs.declared.task.Move.{Move}
use Rattle.ictl.specs.declared.task.Move.TheVariants as moves
use Rattle.ictl.specs.declared.next.Next.{Next}
use Rattle.ictl.specs.declared.next.Next.TheVariants.{Asks, Write, Ended, NoMemory}
use Rattle.ictl.specs.declared.interp.Interp.{Interp}

-- ---- what it holds

abbrev pub interp_state : Interp → State HostState
interp_state interp = state_of interp.settling.run

-- how the run up to the response ended
abbrev pub ending_of : Task → Ending
ending_of New = Answered
ending_of (Preauth next) = Answered
ending_of Authorise = Answered
ending_of (Postauth next) = Answered
ending_of (PageAsked path budget) = Answered
ending_of Procedure = Answered
ending_of Page = Answered
ending_of (Writing ending) = ending
ending_of (Trace next ending) = ending
ending_of (Cleanup next ending) = ending
ending_of Script = Answered
ending_of (Define defining) = Answered
ending_of Over = Answered

-- the blueprint on which `reset` puts the host, where a run was begun, which may leave the host in any state
abbrev pub spare_of : Interp → Option Edition
spare_of interp = option_map (λ spare. spare.value) interp.spare

-- the host behind a `reset` with this spare
abbrev pub put_on : Option Edition → HostState → HostState
put_on None host = host
put_on (Some spare) host = with_blueprint host spare

-- an interpreter whose host is so put back, and which has no spare
abbrev pub restored : Interp → Interp
restored i = record i {
  settling = record i.settling { run = record { engine = record i.settling.run.engine { host = put_on (spare_of i) i.settling.run.engine.host } } };
  spare = None;
}

-- The spare is the interpreter's own blueprint; without a spare nothing was begun, and the host is on that blueprint itself.
abbrev pub HasBlueprint : Option Edition → Task → Edition → Edition → Type 0
HasBlueprint None task on own = (task ≡ New) × (on ≡ own)
HasBlueprint (Some spare) task on own = spare ≡ own

-- Its commands go back to those of its blueprint at its mark, and the entries above the mark are those that the run made; its base
-- scalars, its tables of registrations and cleanup scripts, whether it authorises requests, and what its host goes back to, are those
-- of its blueprint.
pub record IsSound (names : Names) (interp : Interp) : Type 0 where
  pub commands : table_at interp.settling.run.engine.table interp.mark ≡ Commands names interp.blueprint.value.defs
  pub entries : mark_of interp.settling.run.engine.table ≡ interp.mark + Writes interp.settling.run.engine.made
  pub keeps : interp.settling.run.engine.frames.keeps ≡ keeps_of interp.blueprint.value.defs
  pub routes : IsBuiltOf interp.routes interp.blueprint.value.defs
  pub cleanups : interp.cleanups ≡ cleanups_of interp.blueprint.value.defs
  pub authorises : interp.authorises ≡ is_authorised names interp.blueprint.value.defs
  pub blueprint : HasBlueprint (spare_of interp) interp.task interp.settling.run.engine.host.blueprint interp.blueprint.value

-- It is as newly made: its state is the fresh one of its blueprint, but for the mark of the last run, which stands beside it; nothing
-- is suspended and no run inside is under way; and nothing is left of a request, a moment or a task.
pub record IsFresh (names : Names) (interp : Interp) : Type 0 where
  pub state : interp_state interp ≡ fresh_but_marked names interp.blueprint.value interp.settling.run.engine.host.marked
  pub idle : IsIdle interp.settling.run.engine
  pub inner : interp.settling.inner ≡ None
  pub visit : interp.visit ≡ no_visit
  pub moment : interp.moment ≡ 0
  pub task : interp.task ≡ New

-- both: what each start and `update` ask for
abbrev pub IsNew : Names → Interp → Type 0
IsNew names interp = IsSound names interp × IsFresh names interp

-- it is as newly made, on natives of some names
abbrev pub IsNewOnSome : Interp → Type 0
IsNewOnSome interp = (names : Names) × IsNew names interp

-- where it was as newly made, so it is now
abbrev pub StaysNew : Interp → Interp → Type 0
StaysNew new old = (names : Names) → IsNew names old → IsNew names new

-- where it was sound, so it is now
abbrev pub StaysSound : Interp → Interp → Type 0
StaysSound new old = (names : Names) → IsSound names old → IsSound names new

-- where it was sound, it is as newly made now
abbrev pub IsReset : Interp → Interp → Type 0
IsReset new old = (names : Names) → IsSound names old → IsNew names new

-- where it was sound, the steps that were counted are the entries that its run's own definitions wrote
abbrev pub CountsReset : ℕ → ℕ → Interp → Type 0
CountsReset after before old = (names : Names) → IsSound names old → after ≡ before + Writes old.settling.run.engine.made

-- ---- later epochs

-- these definitions apply one after the other behind those that stand
abbrev pub AllApply : List Def → Interp → Type 0
AllApply defs interp = first_misfit interp.settling.run.engine.table.table defs ≡ None

-- its blueprint is the one of before with these definitions added, and has this epoch
abbrev pub IsUpdated : ℕ → List Def → Interp → Interp → Type 0
IsUpdated epoch defs new old = new.blueprint.value ≡ added old.blueprint.value epoch defs

-- how many steps an update counts at most: each entry is written, and where memory wants it is taken back
abbrev pub update_steps : List Def → ℕ
update_steps defs = 2 * Writes defs

-- ---- what stays

-- What no run changes, also where memory wants: of its engine the marks of the table with the entries above them, and the base
-- scalars; and its blueprint, its mark, its tables, and whether it authorises requests.
pub record Holds (new old : Interp) : Type 0 where
  pub engine : Lasts new.settling.run.engine old.settling.run.engine
  pub blueprint : new.blueprint.value ≡ old.blueprint.value
  pub mark : new.mark ≡ old.mark
  pub routes : new.routes ≡ old.routes
  pub cleanups : new.cleanups ≡ old.cleanups
  pub authorises : new.authorises ≡ old.authorises

-- whether the last run marked it stays
abbrev pub KeepsMarked : Interp → Interp → Type 0
KeepsMarked new old = new.settling.run.engine.host.marked ≡ old.settling.run.engine.host.marked

-- Within one run the request's filters, its authorisation and what serves it stay, and so do the moment and the spare blueprint.
pub record IsSameRun (new old : Interp) : Type 0 where
  pub visit : new.visit ≡ old.visit
  pub moment : new.moment ≡ old.moment
  pub spare : spare_of new ≡ spare_of old

-- ---- steps

-- The entries that a run has written in its own command table, with those of the run inside that hasn't ended.
abbrev pub interp_written : Names → Interp → ℕ
interp_written names interp = written names interp.blueprint.value interp.settling

-- The entries that the runs inside which ended in a call have written: of the steps that were counted before and after it, those
-- that the call didn't write in the table of the run itself.
abbrev pub taken : Names → ℕ → ℕ → Interp → Interp → ℕ
taken names after before new old = (after + interp_written names old) - (before + interp_written names new)

-- No step is left out: each entry that was written in the table of the run itself was counted.
abbrev pub Counts : Names → ℕ → ℕ → Interp → Interp → Type 0
Counts names after before new old = before + interp_written names new ≤ after + interp_written names old

-- The entries that a run, as far as it came, has written in its own command table.
abbrev pub own_written : Progress → ℕ
own_written (asks question state inside) = Writes state.made
own_written (writes response ending state inside left) = Writes state.made
own_written (ends outcome state inside left) = Writes state.made

-- The same with those that the runs inside it wrote.
abbrev pub all_written : Progress → ℕ
all_written (asks question state inside) = Writes state.made + inside
all_written (writes response ending state inside left) = Writes state.made + inside
all_written (ends outcome state inside left) = Writes state.made + inside

-- A call stays within what the run writes, also where memory wants: the steps that it counted, with the entries that were written
-- before it, and the entries that stand in the run's own table behind it.
pub record IsWithin (written before after : ℕ) (new : Interp) (run : Progress) : Type 0 where
  pub all : after + written ≤ before + all_written run
  pub own : Writes (interp_state new).made ≤ own_written run

-- a run that begins stays within what it writes
abbrev pub BeginsWithin : (List Answer → Progress) → ℕ → ℕ → Interp → Type 0
BeginsWithin run after before new = IsWithin 0 before after new (run [])

-- ---- what it stands for

-- whatever is answered but want of memory
abbrev pub UnlessNoMemory : Next → Type 0 → Type 0
UnlessNoMemory (Asks question) fact = fact
UnlessNoMemory (Write response) fact = fact
UnlessNoMemory (Ended outcome) fact = fact
UnlessNoMemory NoMemory fact = Unit {0}

module _ (names : Names) where
  -- what serves its request
  abbrev pub served : Interp → Stretch
  served i = serve names i.blueprint.value i.moment i.visit.serving

  -- its postauth filters from a place on, and what is behind them
  abbrev pub postauth_from : Interp → ℕ → Stretch
  postauth_from i next = filters_from names i.blueprint.value i.moment (drop next i.visit.postauth) (served i)

  -- its authorisation, and what is behind it
  abbrev pub access_from : Interp → Stretch
  access_from i = unauthorised names i.blueprint.value i.moment i.visit

  -- its preauth filters from a place on, and what is behind them
  abbrev pub preauth_from : Interp → ℕ → Stretch
  preauth_from i next = filters_from names i.blueprint.value i.moment (drop next i.visit.preauth) (access_from i)

  -- its trace filters from a place on, and its cleanup scripts
  abbrev pub trace_from : Interp → ℕ → Ending → Stretch
  trace_from i next ending = traces_from names i.blueprint.value i.moment (drop next i.visit.trace) i.cleanups ending

  -- its cleanup scripts from a place on
  abbrev pub cleaned : Interp → ℕ → Ending → Stretch
  cleaned i next ending = cleanups_from names i.blueprint.value i.moment (drop next i.cleanups) ending

  -- what comes of a preauth filter that said so, behind which stands the one at this place
  abbrev pub preauth_ended : Interp → ℕ → Verdict → Stretch
  preauth_ended i next said = filter_end (preauth_from i next) (access_from i) said

  -- what comes of the authorisation that said so
  abbrev pub access_ended : Interp → Access → Stretch
  access_ended i said = access_end (authorised names i.blueprint.value i.moment i.visit) said

  -- what comes of a postauth filter that said so, behind which stands the one at this place
  abbrev pub postauth_ended : Interp → ℕ → Verdict → Stretch
  postauth_ended i next said = filter_end (postauth_from i next) (served i) said

  -- what comes of a trace filter that said so, behind which stands the one at this place
  abbrev pub trace_ended : Interp → ℕ → Ending → Verdict → Stretch
  trace_ended i next ending said = trace_end (trace_from i next ending) (cleaned i 0 ending) said

  -- What comes of a script in the task under way. Where no script can run, this is never met.
  abbrev pub task_end : Interp → Task → Settled → Progress
  task_end i New x = main_on x procedure_end
  task_end i (Preauth next) x = main_on x (λ code result. preauth_ended i next (verdict code result))
  task_end i Authorise x = main_on x (λ code result. access_ended i (access code result))
  task_end i (Postauth next) x = main_on x (λ code result. postauth_ended i next (verdict code result))
  task_end i (PageAsked path budget) x = main_on x procedure_end
  task_end i Procedure x = main_on x procedure_end
  task_end i Page x = main_on x page_end
  task_end i (Writing ending) x = main_on x procedure_end
  task_end i (Trace next ending) x = after_on ending x (λ code result. trace_ended i next ending (verdict code result))
  task_end i (Cleanup next ending) x = after_on ending x (λ code result. cleaned i next ending)
  task_end i Script x = script_end x
  task_end i (Define defining) x = main_on x procedure_end
  task_end i Over x = main_on x procedure_end

  -- what comes of a script that stopped so; the runs inside that have ended wrote so much
  abbrev pub goes_to : Stop → ℕ → Interp → List Answer → Progress
  goes_to stop inside i answers = task_end i i.task (settling_gives names i.blueprint.value i.moment stop i.settling inside answers)

  -- what comes of it at a question: that of a script, for a first page, or of a definition run
  abbrev pub asking_gives : Question → Task → ℕ → Interp → List Answer → Progress
  asking_gives question (PageAsked path budget) inside i answers =
      page_asked names i.blueprint.value i.moment question path (interp_state i) (account_of budget i.settling.questions inside) answers
  asking_gives question (Define defining) inside i answers =
      defined_end inside (define_at names i.blueprint.value i.moment question i.settling.run defining defining.value answers)
  asking_gives question New inside i answers = goes_to (stops.Asks question) inside i answers
  asking_gives question (Preauth next) inside i answers = goes_to (stops.Asks question) inside i answers
  asking_gives question Authorise inside i answers = goes_to (stops.Asks question) inside i answers
  asking_gives question (Postauth next) inside i answers = goes_to (stops.Asks question) inside i answers
  asking_gives question Procedure inside i answers = goes_to (stops.Asks question) inside i answers
  asking_gives question Page inside i answers = goes_to (stops.Asks question) inside i answers
  asking_gives question (Writing ending) inside i answers = goes_to (stops.Asks question) inside i answers
  asking_gives question (Trace next ending) inside i answers = goes_to (stops.Asks question) inside i answers
  asking_gives question (Cleanup next ending) inside i answers = goes_to (stops.Asks question) inside i answers
  asking_gives question Script inside i answers = goes_to (stops.Asks question) inside i answers
  asking_gives question Over inside i answers = goes_to (stops.Asks question) inside i answers

  -- What comes of an interpreter that answered this, with further answers, where the runs inside that have ended wrote so much. Of
  -- want of memory nothing is said.
  abbrev pub gives : Next → ℕ → Interp → List Answer → Progress
  gives (Asks question) inside i answers = asking_gives question i.task inside i answers
  gives (Write response) inside i answers = writes response (ending_of i.task) (interp_state i) inside answers
  gives (Ended outcome) inside i answers = ends outcome (interp_state i) inside answers
  gives NoMemory inside i answers = ends outcomes.NoMemory (interp_state i) inside answers

  abbrev pub move_gives : Move → ℕ → Interp → List Answer → Progress
  move_gives (moves.Goes stop) inside i answers = goes_to stop inside i answers
  move_gives (moves.Stops next) inside i answers = gives next inside i answers

  -- An interpreter that answered this stands for a run and a list that was given to it: whatever is given further, the run comes
  -- with the whole list as far as the interpreter itself comes with the further one. The runs inside that have ended wrote so much.
  abbrev pub Stands : (List Answer → Progress) → Next → ℕ → Interp → List Answer → Type 0
  Stands run next inside i given =
      UnlessNoMemory next ((further : List Answer) → run (given ++ further) ≡ gives next inside i further)

  -- A run has begun: it stands for that run, to which nothing was given yet.
  abbrev pub Begins : (List Answer → Progress) → Next → ℕ → ℕ → Interp → Interp → Type 0
  Begins run next after before new old = Stands run next (taken names after before new old) new []

  -- what comes behind the response at which it stands, which was written whole or not
  abbrev pub behind_of : Interp → Bool → Request → ℕ → List Answer → Progress
  behind_of i whole request inside answers =
      behind names i.blueprint.value i.moment whole request (ending_of i.task) (interp_state i) inside answers

  -- This holds of whichever request it went through, where it is sound.
  abbrev pub OfItsRequest : Interp → (Request → Type 0) → Type 0
  OfItsRequest i fact = (request : Request) → IsSound names i → i.visit ≡ visit_of names i.blueprint.value request → fact request

  -- It goes on behind its response: it stands for what comes behind the response to its request.
  abbrev pub GoesBehind : Bool → Next → ℕ → ℕ → Interp → Interp → Type 0
  GoesBehind whole next after before new old =
      OfItsRequest old
      (λ request. (inside : ℕ) → Stands (behind_of old whole request inside) next (inside + taken names after before new old) new [])

  -- a call stays within what comes behind the response writes
  abbrev pub BehindWithin : Bool → ℕ → ℕ → Interp → Interp → Type 0
  BehindWithin whole after before new old =
      OfItsRequest old
      (λ request. (inside : ℕ) → IsWithin (inside + Writes (interp_state old).made) before after new (behind_of old whole request inside []))

  -- its visit is that of this request, and its moment is this
  abbrev pub IsVisitOf : Request → Moment → Interp → Interp → Type 0
  IsVisitOf request moment new old = (new.visit ≡ visit_of names old.blueprint.value request) × (new.moment ≡ moment)

  -- What comes of an answer: what the new interpreter gives on further answers is what the old one, at its question, gives on the
  -- answer and those behind it. In the call the runs inside that ended took so many steps.
  abbrev pub Continues : Next → ℕ → Interp → Interp → Answer → Type 0
  Continues next took new old answer =
      (question : Question) (inside : ℕ) (further : List Answer)
      → gives next (inside + took) new further ≡ gives (Asks question) inside old (answer ∷ further)

  -- the same unless memory wants
  abbrev pub GoesOn : Next → ℕ → Interp → Interp → Answer → Type 0
  GoesOn next took new old answer = UnlessNoMemory next (Continues next took new old answer)

  -- The same of all that was given since the start: where the old interpreter, at its question, stood for a run and a list, the new
  -- one stands for that run and the list followed by the answer.
  abbrev pub StandsOn : Next → ℕ → Interp → Interp → Answer → Type 0
  StandsOn next took new old answer =
      (question : Question) (inside : ℕ) (run : List Answer → Progress) (given : List Answer)
      → Stands run (Asks question) inside old given → Stands run next (inside + took) new (given ++ answer ∷ [])

  -- a call stays within what comes of the answer writes
  abbrev pub AnswerWithin : Answer → ℕ → ℕ → Interp → Interp → Type 0
  AnswerWithin answer after before new old =
      (question : Question) (inside : ℕ)
      → IsWithin (inside + interp_written names old) before after new (gives (Asks question) inside old (answer ∷ []))
