-- Where an interpreter stands, and the number that falls at each question.
use Rattle.std.specs.Prelude.{◌≡◌, ◌<◌, ◌≤◌, ℕ, ◌+◌, ◌*◌, ◌-◌, length, Option, Some, None, IsSome}
use Rattle.txt_core.specs.Names.{Bytes}
use Rattle.txt_core.specs.Limits.{bucket_count}
use Rattle.outside.specs.declared.question.Service.TheVariants as service
use Rattle.tcl_eval.specs.Engine.{IsOpenTo}
use Rattle.tcl_eval.specs.declared.outcome.Outcome.{Outcome}
use Rattle.tcl_eval.specs.declared.outcome.Outcome.TheVariants as outcomes
use Rattle.ictl.specs.Main.{run_questions}
use Rattle.ictl.specs.declared.running.Running.{Running}
use Rattle.ictl.specs.declared.running.Stop.{Stop}
use Rattle.ictl.specs.declared.running.Stop.TheVariants as stops
use Rattle.ictl.specs.declared.defining.DefineRun.{DefineRun}
use Rattle.ictl.specs.declared.defining.DefineStop.{DefineStop}
use Rattle.ictl.specs.declared.defining.DefineStop.TheVariants as defines
use Rattle.ictl.specs.declared.inner.InnerRun.{InnerRun}
use Rattle.ictl.specs.declared.settling.Settling.{Settling}
use Rattle.ictl.specs.declared.settling.Step.{Step}
use Rattle.ictl.specs.declared.settling.Step.TheVariants as steps
use Rattle.ictl.specs.declared.ending.Ending.{Ending}
use Rattle.ictl.specs.declared.task.Task.{Task}
use Rattle.ictl.specs.declared.task.Task.TheVariants.{New, Preauth, Authorise, Postauth, PageAsked, Procedure, Page, Writing, Trace, Cleanup, Script, Define, Over}
use Rattle.ictl.specs.declared.task.Move.{Move}
use Rattle.ictl.specs.declared.task.Move.TheVariants as moves
use Rattle.ictl.specs.declared.next.Next.{Next}
use Rattle.ictl.specs.declared.next.Next.TheVariants.{Asks, Write, Ended, NoMemory}
use Rattle.ictl.specs.declared.interp.Interp.{Interp}

-- ---- the count of questions suffices

-- How many questions a run can still ask, at most, where it stands at one: each command that asks is paid for, and asks once, or
-- it gathers answers and asks each bucket.
abbrev pub askable : Running → ℕ
askable run = (bucket_count + 1) * run.engine.budget + (bucket_count - length run.engine.host.gathered)

-- so much budget may ask so many questions, at most
abbrev pub suffices : ℕ → ℕ → Type 0
suffices budget questions = (bucket_count + 1) * budget ≤ questions

-- a script may begin with this budget: enough may be asked, and no run inside is under way
abbrev pub IsReady : ℕ → Settling → Type 0
IsReady budget s = suffices budget s.questions × (s.inner ≡ None)

-- a run stopped so, and of so many questions enough are left: one at least where it asks
abbrev pub Suffices : Stop → Running → ℕ → Type 0
Suffices (stops.Ended code result) run questions = suffices run.engine.budget questions
Suffices (stops.Asks question) run questions = askable run < questions
Suffices stops.Spent run questions = Unit {0}
Suffices stops.TooDeep run questions = Unit {0}

-- the same behind an answer, where so many were left as may be asked from its question on
abbrev pub SufficesOn : Stop → Running → Running → Type 0
SufficesOn stop new old = (questions : ℕ) → askable old ≤ questions → Suffices stop new questions

-- ---- where it stands

-- a run that stopped at a question has it open, for whom it goes to
abbrev pub StopAsks : Stop → Running → Type 0
StopAsks (stops.Ended code result) run = Unit {0}
StopAsks (stops.Asks question) run = IsOpenTo question.service run.engine.question
StopAsks stops.Spent run = Unit {0}
StopAsks stops.TooDeep run = Unit {0}

-- a run stands at a question of its own, and behind it enough may be asked
abbrev pub RunAsks : Running → ℕ → Type 0
RunAsks run questions = IsSome run.engine.question × (askable run ≤ questions)

-- a definition run stands at a question: its own, or whether to publish
abbrev pub DefineAsks : Running → ℕ → Option Bytes → Type 0
DefineAsks run questions None = RunAsks run questions
DefineAsks run questions (Some value) = Unit {0}

-- a definition run came to this: where it asks, it stands there
abbrev pub DefineStopAsks : DefineStop → Running → DefineRun → Type 0
DefineStopAsks (defines.Stands question) run defining = DefineAsks run defining.questions defining.value
DefineStopAsks (defines.Said answer) run defining = Unit {0}
DefineStopAsks defines.Gone run defining = Unit {0}
DefineStopAsks defines.Sunk run defining = Unit {0}

-- where a run inside stands at a question, so does the script that asked for that run
abbrev pub InnerAsks : Running → ℕ → Option InnerRun → Type 0
InnerAsks run questions None = RunAsks run questions
InnerAsks run questions (Some inner) =
    IsOpenTo service.Inner run.engine.question × (askable run ≤ questions)
    × DefineAsks inner.run inner.defining.questions inner.defining.value

abbrev pub SettlingAsks : Settling → Type 0
SettlingAsks s = InnerAsks s.run s.questions s.inner

-- a script came to this: where it asks, it stands there; where it has ended, the next may begin
abbrev pub SettlingAt : Stop → Settling → Type 0
SettlingAt (stops.Ended code result) s = IsReady s.run.engine.budget s
SettlingAt (stops.Asks question) s = SettlingAsks s
SettlingAt stops.Spent s = s.inner ≡ None
SettlingAt stops.TooDeep s = s.inner ≡ None

-- the same of a step: where it goes on, what comes next may be asked
abbrev pub StepAt : Step → Settling → Type 0
StepAt (steps.Goes stop) s = StopAsks stop s.run × Suffices stop s.run s.questions
StepAt (steps.Stops stop) s = SettlingAt stop s

abbrev pub TaskAsks : Task → Settling → Type 0
TaskAsks (PageAsked path budget) s = IsReady budget s
TaskAsks (Define defining) s = DefineAsks s.run defining.questions defining.value × (s.inner ≡ None)
TaskAsks New s = ⊥
TaskAsks (Preauth next) s = SettlingAsks s
TaskAsks Authorise s = SettlingAsks s
TaskAsks (Postauth next) s = SettlingAsks s
TaskAsks Procedure s = SettlingAsks s
TaskAsks Page s = SettlingAsks s
TaskAsks (Writing ending) s = SettlingAsks s
TaskAsks (Trace next ending) s = SettlingAsks s
TaskAsks (Cleanup next ending) s = SettlingAsks s
TaskAsks Script s = SettlingAsks s
TaskAsks Over s = SettlingAsks s

-- It stands at a question, which `resume` answers.
abbrev pub IsAsking : Interp → Type 0
IsAsking i = TaskAsks i.task i.settling

-- It stands where a response is to be written, of which `written` tells.
abbrev pub IsWriting : Interp → Type 0
IsWriting i = (i.settling.inner ≡ None) × ((ending : Ending) × (i.task ≡ Writing ending))

-- how a run ends: neither at a question nor with want of memory
abbrev pub IsEnd : Outcome → Type 0
IsEnd (outcomes.Done code result) = Unit {0}
IsEnd (outcomes.Asks question) = ⊥
IsEnd outcomes.Spent = Unit {0}
IsEnd outcomes.TooDeep = Unit {0}
IsEnd outcomes.NoMemory = ⊥

-- It stands at what it answered.
abbrev pub StandsAt : Next → Interp → Type 0
StandsAt (Asks question) i = IsAsking i
StandsAt (Write response) i = IsWriting i
StandsAt (Ended outcome) i = IsEnd outcome × (i.task ≡ Over) × (i.settling.inner ≡ None)
StandsAt NoMemory i = Unit {0}

-- the same where something goes out, which want of memory isn't
abbrev pub GoesOut : Next → Interp → Type 0
GoesOut (Asks question) i = IsAsking i
GoesOut (Write response) i = IsWriting i
GoesOut (Ended outcome) i = IsEnd outcome × (i.task ≡ Over) × (i.settling.inner ≡ None)
GoesOut NoMemory i = ⊥

-- in this task scripts run, with the runs inside that they ask for
abbrev pub IsScriptTask : Task → Type 0
IsScriptTask (PageAsked path budget) = ⊥
IsScriptTask (Define defining) = ⊥
IsScriptTask New = ⊥
IsScriptTask (Preauth next) = Unit {0}
IsScriptTask Authorise = Unit {0}
IsScriptTask (Postauth next) = Unit {0}
IsScriptTask Procedure = Unit {0}
IsScriptTask Page = Unit {0}
IsScriptTask (Writing ending) = Unit {0}
IsScriptTask (Trace next ending) = Unit {0}
IsScriptTask (Cleanup next ending) = Unit {0}
IsScriptTask Script = Unit {0}
IsScriptTask Over = Unit {0}

abbrev pub MoveStandsAt : Move → Interp → Type 0
MoveStandsAt (moves.Goes stop) i = SettlingAt stop i.settling × IsScriptTask i.task
MoveStandsAt (moves.Stops next) i = GoesOut next i

-- ---- the number that falls

-- What one question of a script counts for: more than all that a run inside may ask.
abbrev pub per_question : ℕ
per_question = 18446744073709551624

-- what a definition run can still ask: nothing behind the question whether to publish
abbrev pub define_number : ℕ → Option Bytes → ℕ
define_number questions None = questions + 1
define_number questions (Some value) = 0

-- what a script counts for at a question beside what it may ask behind it: the number of the run inside, if there is one
abbrev pub inner_number : Option InnerRun → ℕ
inner_number None = 3
inner_number (Some inner) = define_number inner.defining.questions inner.defining.value + 4

abbrev pub settling_number : Settling → ℕ
settling_number s = per_question * s.questions + inner_number s.inner

-- what a run counts for at the question for a first page: a script behind it may still ask
abbrev pub part_number : Settling → ℕ
part_number s = per_question * s.questions + 2

abbrev pub task_number : Task → Settling → ℕ
task_number (PageAsked path budget) s = part_number s
task_number (Define defining) s = define_number defining.questions defining.value
task_number New s = settling_number s
task_number (Preauth next) s = settling_number s
task_number Authorise s = settling_number s
task_number (Postauth next) s = settling_number s
task_number Procedure s = settling_number s
task_number Page s = settling_number s
task_number (Writing ending) s = settling_number s
task_number (Trace next ending) s = settling_number s
task_number (Cleanup next ending) s = settling_number s
task_number Script s = settling_number s
task_number Over s = settling_number s

-- a bound on the questions that may still go out
abbrev pub number_of : Interp → ℕ
number_of i = task_number i.task i.settling

-- the same of a part of a run that begins
abbrev pub first_number : ℕ
first_number = per_question * run_questions + 4

-- a question goes out only with a smaller number
abbrev pub Falls : Next → Interp → ℕ → Type 0
Falls (Asks question) i before = number_of i < before
Falls (Write response) i before = Unit {0}
Falls (Ended outcome) i before = Unit {0}
Falls NoMemory i before = Unit {0}

abbrev pub SettlingFalls : Stop → Settling → ℕ → Type 0
SettlingFalls (stops.Ended code result) s before = Unit {0}
SettlingFalls (stops.Asks question) s before = settling_number s < before
SettlingFalls stops.Spent s before = Unit {0}
SettlingFalls stops.TooDeep s before = Unit {0}

-- a script that begins or goes on asks with less than what all the questions count for that it may ask
abbrev pub ScriptFalls : Stop → Settling → Settling → Type 0
ScriptFalls stop new old = (before : ℕ) → per_question * old.questions ≤ before → SettlingFalls stop new before

abbrev pub StepFalls : Step → Settling → ℕ → Type 0
StepFalls (steps.Goes stop) s before = per_question * s.questions ≤ before
StepFalls (steps.Stops stop) s before = SettlingFalls stop s before

abbrev pub DefineFalls : DefineStop → DefineRun → ℕ → Type 0
DefineFalls (defines.Stands question) d before = define_number d.questions d.value < before
DefineFalls (defines.Said answer) d before = Unit {0}
DefineFalls defines.Gone d before = Unit {0}
DefineFalls defines.Sunk d before = Unit {0}

-- what may be asked behind the end of a task is less than this; behind the procedure, the page and a scheduled script nothing is
abbrev pub EndFalls : Task → Settling → ℕ → Type 0
EndFalls Procedure s before = Unit {0}
EndFalls Page s before = Unit {0}
EndFalls Script s before = Unit {0}
EndFalls New s before = part_number s < before
EndFalls (Preauth next) s before = part_number s < before
EndFalls Authorise s before = part_number s < before
EndFalls (Postauth next) s before = part_number s < before
EndFalls (PageAsked path budget) s before = part_number s < before
EndFalls (Writing ending) s before = part_number s < before
EndFalls (Trace next ending) s before = part_number s < before
EndFalls (Cleanup next ending) s before = part_number s < before
EndFalls (Define defining) s before = part_number s < before
EndFalls Over s before = part_number s < before

abbrev pub StopFalls : Stop → Task → Settling → ℕ → Type 0
StopFalls (stops.Ended code result) task s before = EndFalls task s before
StopFalls (stops.Asks question) task s before = settling_number s < before
StopFalls stops.Spent task s before = Unit {0}
StopFalls stops.TooDeep task s before = Unit {0}

abbrev pub MoveFalls : Move → Interp → ℕ → Type 0
MoveFalls (moves.Goes stop) i before = StopFalls stop i.task i.settling before
MoveFalls (moves.Stops next) i before = Falls next i before

-- a part of a run that begins so asks with no more than what a run counts for at the question for a first page
abbrev pub PartFalls : Move → Interp → Interp → Type 0
PartFalls step new old = (before : ℕ) → part_number old.settling < before → MoveFalls step new before
