-- What is left of a script or of a run, and the calls that go on along it.
use Rattle.std.specs.Prelude.{◌≡◌, ◌≤◌, ℕ, ◌+◌, ◌-◌, List, [], ◌∷◌, Some}
use Rattle.txt_core.specs.Names.{Names, Words, Moment}
use Rattle.outside.specs.declared.question.Answer.{Answer}
use Rattle.outside.specs.declared.question.Question.{Question}
use Rattle.server_host.specs.declared.edition.Edition.{Edition}
use Rattle.tcl_eval.specs.Engine.{at_global}
use Rattle.tcl_eval.specs.declared.outcome.Work.{Work}
use Rattle.ictl.specs.Fresh.{build_steps}
use Rattle.ictl.specs.Settle.{account_of, Run, Settled, Defined, behind_inner, settle}
use Rattle.ictl.specs.Defines.{inner_runs}
use Rattle.ictl.specs.Main.{Stretch, Progress, runs, calls, page_question, visited}
use Rattle.ictl.specs.Standing.{state_of, comes_to, onward, settling_at, settling_gives, written, inner_written}
use Rattle.ictl.specs.Interps.{interp_state, interp_written, taken, IsWithin, task_end, goes_to, asking_gives, gives, move_gives}
use Rattle.ictl.specs.Steps.{step_gives, asked_path}
use Rattle.ictl.specs.Within.{SettledWithin}
use Rattle.ictl.specs.declared.running.Stop.{Stop}
use Rattle.ictl.specs.declared.inner.InnerRun.{InnerRun}
use Rattle.ictl.specs.declared.settling.Settling.{Settling}
use Rattle.ictl.specs.declared.settling.Step.{Step}
use Rattle.ictl.specs.declared.ending.Ending.TheVariants.{Answered}
use Rattle.ictl.specs.declared.task.Task.{Task}
use Rattle.ictl.specs.declared.task.Task.TheVariants.{Writing}
use Rattle.ictl.specs.declared.task.Move.{Move}
use Rattle.ictl.specs.declared.next.Next.{Next}
use Rattle.ictl.specs.declared.interp.Interp.{Interp}

-- ---- scripts

-- What is left of a script: what it comes to, where the runs inside that have ended wrote so much, with these answers.
abbrev pub ScriptWay : Type 0
ScriptWay = ℕ → List Answer → Settled

-- the entries that a script has written so far, with those of a run inside that was taken out of it
abbrev pub written_with : Names → Edition → Settling → InnerRun → ℕ
written_with names blueprint s inner = written names blueprint s + inner_written names blueprint (Some inner)

-- The entries that the runs inside which ended in a call have written: of the steps that were counted before and after it, those
-- that the call didn't write in the tables of the script, where `had` is what was written there before the call.
abbrev pub script_taken : Names → Edition → ℕ → ℕ → Settling → ℕ → ℕ
script_taken names blueprint after before new had = (after + had) - (before + written names blueprint new)

-- No step is left out: each entry that was written in the tables of the script was counted.
abbrev pub ScriptCounts : Names → Edition → ℕ → ℕ → Settling → ℕ → Type 0
ScriptCounts names blueprint after before new had = before + written names blueprint new ≤ after + had

-- the same of a call that begins with what the script had written
abbrev pub CountsScript : Names → Edition → ℕ → ℕ → Settling → Settling → Type 0
CountsScript names blueprint after before new old = ScriptCounts names blueprint after before new (written names blueprint old)

-- a call stays within what the way of its script writes, where no answer is given further
abbrev pub ScriptWithin : ℕ → ℕ → Settling → ℕ → ScriptWay → Type 0
ScriptWithin after before new had way = (inside : ℕ) → SettledWithin (inside + had) before after new (way inside [])

-- the same of a call that begins with what the script had written
abbrev pub WithinFrom : Names → Edition → ℕ → ℕ → Settling → Settling → ScriptWay → Type 0
WithinFrom names blueprint after before new old way = ScriptWithin after before new (written names blueprint old) way

module _ (names : Names) (blueprint : Edition) (moment : Moment) where
  -- the way of a run that may ask so many questions
  abbrev pub settle_way : ℕ → Run → ScriptWay
  settle_way questions run inside answers = settle (inner_runs names blueprint moment) questions inside run answers

  -- the way of a script that stopped so
  abbrev pub stopped_way : Stop → Settling → ScriptWay
  stopped_way stop s inside answers = settle_way s.questions (comes_to names stop s.run) inside answers

  -- the way behind the answer to the question that went out
  abbrev pub answer_way : Question → Settling → Answer → ScriptWay
  answer_way question s answer inside answers =
      settling_at names blueprint moment question s s.inner inside (answer ∷ answers)

  -- the way of a script at its question for a run inside, which comes to this with answers
  abbrev pub inner_way : Question → Settling → (List Answer → Defined) → ScriptWay
  inner_way question s inner inside answers =
      behind_inner (build_steps names blueprint.defs) (inner answers) (state_of s.run)
      (account_of s.run.engine.budget s.questions inside) (onward names blueprint moment question s)

  -- where a script stopped so behind a call, what it comes to is what its way comes to from before the call
  abbrev pub StopsAlong : Stop → ℕ → ℕ → Settling → ℕ → ScriptWay → Type 0
  StopsAlong stop after before new had way =
      (inside : ℕ) (further : List Answer)
      → settling_gives names blueprint moment stop new (inside + script_taken names blueprint after before new had) further ≡ way inside further

  -- the same of a call that begins with what the script had written
  abbrev pub StopsFrom : Stop → ℕ → ℕ → Settling → Settling → ScriptWay → Type 0
  StopsFrom stop after before new old way = StopsAlong stop after before new (written names blueprint old) way

  -- where a script may go on behind a call, what it comes to is what its way comes to from before the call
  abbrev pub StepsAlong : Step → ℕ → ℕ → Settling → ℕ → ScriptWay → Type 0
  StepsAlong step after before new had way =
      (inside : ℕ) (further : List Answer)
      → step_gives names blueprint moment step new (inside + script_taken names blueprint after before new had) further ≡ way inside further

  -- the same of a call that begins with what the script had written
  abbrev pub StepsFrom : Step → ℕ → ℕ → Settling → Settling → ScriptWay → Type 0
  StepsFrom step after before new old way = StepsAlong step after before new (written names blueprint old) way

-- ---- runs

-- What is left of a run: what it comes to, where the runs inside that have ended wrote so much, with these answers.
abbrev pub Way : Type 0
Way = ℕ → List Answer → Progress

-- the way of a stretch that begins as an interpreter stands, with so much budget
abbrev pub way_from : Interp → ℕ → Stretch → Way
way_from i budget stretch inside answers = stretch (interp_state i) (account_of budget i.settling.questions inside) answers

-- the way of a stretch behind a script that has ended, with what that left of the budget
abbrev pub way_on : Interp → Stretch → Way
way_on i stretch inside answers = way_from i i.settling.run.engine.budget stretch inside answers

-- nothing but the task is another
abbrev pub ChangesTask : Interp → Interp → Type 0
ChangesTask new old = (task : Task) × (new ≡ record old { task = task })

-- all is as it was, but that it stands where a response is to be written, of a run that nothing cut off
abbrev pub IsToWrite : Interp → Interp → Type 0
IsToWrite new old = new ≡ record old { task = Writing Answered }

module _ (names : Names) where
  -- the whole request that an interpreter serves
  abbrev pub visit_from : Interp → Stretch
  visit_from i = visited names i.blueprint.value i.moment i.visit

  -- the way of a script, a call or a page that runs as a task, from the global frame on
  abbrev pub run_way : Interp → Task → Work → ℕ → Way
  run_way i task work budget inside answers =
      task_end names i task (runs names i.blueprint.value i.moment work (at_global (interp_state i)) (account_of budget i.settling.questions inside) answers)

  -- the way of a call as a task, from the global frame and outside of every page
  abbrev pub call_way : Interp → Task → Words → ℕ → Way
  call_way i task words budget inside answers =
      task_end names i task (calls names i.blueprint.value i.moment words (interp_state i) (account_of budget i.settling.questions inside) answers)

  -- the way behind a script that stopped so
  abbrev pub stop_way : Interp → Stop → Way
  stop_way i stop inside answers = goes_to names stop inside i answers

  -- the way of an interpreter that moved so
  abbrev pub move_way : Interp → Move → Way
  move_way i step inside answers = move_gives names step inside i answers

  -- the way behind the answer to the question for a first page
  abbrev pub page_way : Interp → Answer → Way
  page_way i answer inside answers = asking_gives names (page_question (asked_path i.task)) i.task inside i (answer ∷ answers)

  -- where an interpreter moved so in a call, what it comes to is what the way comes to from before the call
  abbrev pub MovesAlong : Move → ℕ → ℕ → Interp → Interp → Way → Type 0
  MovesAlong step after before new old way =
      (inside : ℕ) (further : List Answer)
      → move_gives names step (inside + taken names after before new old) new further ≡ way inside further

  -- the same where it answered this
  abbrev pub AnswersAlong : Next → ℕ → ℕ → Interp → Interp → Way → Type 0
  AnswersAlong next after before new old way =
      (inside : ℕ) (further : List Answer)
      → gives names next (inside + taken names after before new old) new further ≡ way inside further

  -- a call stays within what the way writes, where no answer is given further
  abbrev pub WayWithin : ℕ → ℕ → Interp → Interp → Way → Type 0
  WayWithin after before new old way =
      (inside : ℕ) → IsWithin (inside + interp_written names old) before after new (way inside [])
