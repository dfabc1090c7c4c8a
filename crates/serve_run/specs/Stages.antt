-- What the parts of a run of the server do.
use Rattle.std.specs.Prelude.{◌≡◌, ◌≤◌, ◌⊎◌, ℕ, Option, Result, Ok, Err}
use Rattle.txt_core.specs.Names.{Bytes, Names, Moment}
use Rattle.outside.specs.Clocks.{Dial}
use Rattle.outside.specs.Paging.{PageMap}
use Rattle.tcl_eval.specs.declared.outcome.Outcome.{Outcome}
use Rattle.tcl_eval.specs.declared.outcome.Outcome.TheVariants as outcomes
use Rattle.worker.specs.declared.scripts.EvalEnd.{EvalEnd}
use Rattle.worker.specs.declared.scripts.EvalEnd.TheVariants as evals
use Rattle.serve_run.specs.Starting.{DefinesAlone, StartsBadly, IsWell, IsError}
use Rattle.server_threads.specs.declared.accepting.Stop.{Stop}
use Rattle.server_threads.specs.declared.accepting.Stop.TheVariants as stop
use Rattle.serve_run.specs.Serving.{Around}
use Rattle.serve_run.specs.declared.ended.StartFault.TheVariants as start
use Rattle.serve_run.specs.declared.ended.Ended.{Ended}
use Rattle.serve_run.specs.declared.ended.Ended.TheVariants as ways
use Rattle.serve_run.specs.declared.start.NotStarted.{NotStarted}
use Rattle.serve_run.specs.declared.start.NotStarted.TheVariants.{Fault, NoMemory}

-- what was wrong with the start script; of want of memory nothing is said
abbrev pub Misses : Names → Bytes → Option PageMap → ℕ → Option Dial → ℕ → NotStarted → Type 0
Misses names path held faults clock after (Fault fault) = StartsBadly names path held faults clock after fault
Misses names path held faults clock after NoMemory = Unit {0}

-- the script's definition run on the opening objects, alone, ended so; of want of memory nothing is said
abbrev pub EndsRun : Names → Option PageMap → Bytes → Moment → ℕ → ℕ → EvalEnd → Type 0
EndsRun names held script moment faults after (evals.Done epoch) =
    (outcome : Outcome) × DefinesAlone names held script moment faults after outcome × IsWell outcome
EndsRun names held script moment faults after (evals.Error text) =
    (outcome : Outcome) × DefinesAlone names held script moment faults after outcome × IsError text outcome
EndsRun names held script moment faults after evals.Spent = DefinesAlone names held script moment faults after outcomes.Spent
EndsRun names held script moment faults after evals.TooDeep = DefinesAlone names held script moment faults after outcomes.TooDeep
EndsRun names held script moment faults after evals.NoMemory = Unit {0}

-- what is told of a start script whose definition run ended so
abbrev pub started : EvalEnd → Result (Unit {0}) NotStarted
started (evals.Done epoch) = Ok tt
started (evals.Error text) = Err (Fault (start.Error text))
started evals.Spent = Err (Fault start.Spent)
started evals.TooDeep = Err (Fault start.TooDeep)
started evals.NoMemory = Err NoMemory

-- ---- from the start on

-- What stood around earlier, before the pages had their root and the net listened: faults were counted since at most.
pub record IsEarlier (before now : Around) : Type 0 where
  pub net : before.net.faults ≤ now.net.faults
  pub pages : now.pages ≡ before.pages
  pub page_faults : before.page_faults ≤ now.page_faults
  pub clock : now.clock ≡ before.clock

-- the run ends so where the start script had no good end; or memory ran out
abbrev pub EndsUnstarted : Bytes → NotStarted → Ended → Type 0
EndsUnstarted path (Fault fault) ended = (ended ≡ ways.BadStart path fault) ⊎ (ended ≡ ways.NoMemory)
EndsUnstarted path NoMemory ended = ended ≡ ways.NoMemory

-- the run ends so where the acceptor stopped so
abbrev pub ended_by : Stop → Ended
ended_by stop.Closed = ways.Done
ended_by stop.Reached = ways.Done
ended_by stop.Fault = ways.NetFault
ended_by stop.NoMemory = ways.NoMemory
