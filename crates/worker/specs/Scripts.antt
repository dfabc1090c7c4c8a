-- Scripts that a worker runs without a connection: those that are due, and those that make definitions.
use Rattle.std.specs.Prelude.{◌≡◌, ◌==◌, ◌⊎◌, ◌≤◌, if◌then◌else◌, ℕ, ◌+◌, ◌*◌, List, [], ◌∷◌, ◌++◌, Option, None, Some}
use Rattle.txt_core.specs.Names.{Bytes, Names, Moment}
use Rattle.outside.specs.Clocks.{Dial}
use Rattle.outside.specs.Paging.{PageMap}
use Rattle.turn_cell.specs.Cells.{pass_view}
use Rattle.server_host.specs.Hosts.{HostState}
use Rattle.blueprint.specs.declared.reply.BlueCall.{BlueCall}
use Rattle.blueprint.specs.declared.reply.BlueCall.TheVariants as blue_call
use Rattle.blueprint.specs.declared.reply.BlueReply.{BlueReply}
use Rattle.blueprint.specs.declared.reply.BlueReply.TheVariants as blue_reply
use Rattle.blueprint.specs.declared.reply.Published.TheVariants as published
use Rattle.blueprint.specs.declared.reply.Look.TheVariants as looks
use Rattle.sched_core.specs.declared.call.DueScript.{DueScript}
use Rattle.sched_core.specs.declared.call.SchedCall.TheVariants as schedule
use Rattle.sched_core.specs.declared.call.SchedReply.{SchedReply}
use Rattle.sched_core.specs.declared.call.SchedReply.TheVariants as scheduled
use Rattle.tcl_host.specs.Codes as code_of
use Rattle.tcl_eval.specs.State.{State}
use Rattle.tcl_eval.specs.declared.outcome.Outcome.{Outcome}
use Rattle.tcl_eval.specs.declared.outcome.Outcome.TheVariants as outcomes
use Rattle.ictl.specs.Falls.{IsEnd}
use Rattle.ictl.specs.Main.{Progress, ends}
use Rattle.outside.specs.declared.question.Answer.{Answer}
use Rattle.shared_state.specs.declared.shared.Passes.{Passes}
use Rattle.shared_state.specs.Views.{BlueEntry, ScheduleEntry}
use Rattle.worker.specs.Lists.{listed}
use Rattle.worker.specs.Turns.{Turn, OnBlueprint, OnArrays, OnSchedule, OnPages, AtOnce, IsAnsweredLook, AreAsked, AtMostOneMore, GainsTurns, GainsLook}
use Rattle.worker.specs.Runs.{edition_of, script_run, define_run}
use Rattle.worker.specs.Clean.{Standing}
use Rattle.worker.specs.Outside.{Ticks, AreHeld, page_faults, RoseBy}
use Rattle.worker.specs.Cost.{renewal, run_cost}
use Rattle.worker.specs.Sessions.{At}
use Rattle.worker.specs.declared.scripts.Ran.{Ran}
use Rattle.worker.specs.declared.scripts.DueRun.{DueRun}
use Rattle.worker.specs.declared.scripts.DueRun.TheVariants as runs
use Rattle.worker.specs.declared.scripts.Evaled.{Evaled}
use Rattle.worker.specs.declared.scripts.EvalEnd.{EvalEnd}
use Rattle.worker.specs.declared.scripts.EvalEnd.TheVariants as evals

-- ---- what is told of definition runs

-- the epoch that a turn tells: that of a publication that was done; a save counts as none
abbrev pub epoch_by : ℕ → BlueCall → BlueReply → ℕ
epoch_by epoch (blue_call.Publish defs) (blue_reply.Published (published.Done now)) = now
epoch_by epoch call reply = epoch

abbrev pub epoch_at : ℕ → Turn → ℕ
epoch_at epoch (OnBlueprint e) = epoch_by epoch e.call e.reply
epoch_at epoch (OnArrays bucket e) = epoch
epoch_at epoch (OnSchedule e) = epoch
epoch_at epoch (OnPages path reply) = epoch
epoch_at epoch AtOnce = epoch

-- The epoch behind a definition run that found this epoch: that of its last turn, where that is a publication; or that which it found.
-- (A definition run asks to publish at its end alone, behind all else, so no turn follows that one.)
abbrev pub epoch_behind : ℕ → List Turn → ℕ
epoch_behind epoch [] = epoch
epoch_behind epoch (turn ∷ []) = epoch_at epoch turn
epoch_behind epoch (turn ∷ other ∷ turns) = epoch_behind epoch (other ∷ turns)

-- What is told of a definition run that ended so: of a good end the epoch behind its publication, or that of its look where nothing
-- was published; of any other code the result, which is the error.
abbrev pub evaluated : Outcome → ℕ → EvalEnd
evaluated (outcomes.Done code result) epoch = if code == code_of.ok then evals.Done epoch else evals.Error result
evaluated outcomes.Spent epoch = evals.Spent
evaluated outcomes.TooDeep epoch = evals.TooDeep
evaluated (outcomes.Asks question) epoch = evals.NoMemory
evaluated outcomes.NoMemory epoch = evals.NoMemory

-- ---- the look in front of a run

-- A run begins by a look on the blueprint, which was answered: its place among the turns there is told, and the epoch that it found.
pub record LooksFirst (turn at_epoch : ℕ) (before : Passes) : Type 0 where
  pub look : BlueEntry
  pub mid : Passes
  pub looks : GainsLook before look mid
  pub is_told : IsAnsweredLook look
  pub place : look.place ≡ turn
  pub epoch : look.before.epoch ≡ at_epoch

module _ (names : Names) (held : Option PageMap) where
  -- ---- one script

  -- A run of a script from its look to its end, at this moment and with these answers: it is that on a fresh interpreter of the
  -- blueprint that its look found.
  pub record RunsWhole (run : BlueEntry → List Answer → Progress) (moment : Moment) (turn at_epoch : ℕ) (answers : List Answer)
      (outcome : Outcome) (turns : List Turn) (a b : At) : Type 0 where
    pub first : LooksFirst turn at_epoch a.passes
    pub gains : GainsTurns first.mid turns b.passes
    pub asked : AreAsked moment (run first.look) turns answers
    pub pages : AreHeld held turns
    pub page_counts : RoseBy (page_faults turns) a.faults b.faults
    pub last : State HostState
    pub inside : ℕ
    pub ended : run first.look answers ≡ ends outcome last inside []
    pub is_end : IsEnd outcome
    pub stands : b.standing ≡ Some (record { edition = edition_of first.look.before; marked = last.host.marked })
    pub steps : b.steps ≤ a.steps + renewal names a.standing first.look.before + run_cost (ends outcome last inside [])

  -- A run for which memory didn't suffice, behind its look: it has the answers that were had, and the replay goes with them as far as
  -- they reach. One turn more may stand than there are answers.
  pub record RunsLost (run : BlueEntry → List Answer → Progress) (moment : Moment) (turn at_epoch : ℕ) (answers : List Answer) (a b : At)
      : Type 0 where
    pub first : LooksFirst turn at_epoch a.passes
    pub turns : List Turn
    pub more : List Turn
    pub gains : GainsTurns first.mid (turns ++ more) b.passes
    pub asked : AreAsked moment (run first.look) turns answers
    pub one_more : AtMostOneMore moment (run first.look) answers more
    pub pages : AreHeld held (turns ++ more)
    pub page_counts : RoseBy (page_faults (turns ++ more)) a.faults b.faults
    pub stands : (b.standing ≡ a.standing) ⊎ (b.standing ≡ None) ⊎ ((standing : Standing) × (b.standing ≡ Some standing) × (standing.edition ≡ edition_of first.look.before))
    pub steps : b.steps ≤ a.steps + 2 * renewal names a.standing first.look.before + run_cost (run first.look answers)

  -- Memory wanted before: nothing was done, or a look was taken, which was refused.
  pub record RunsNot (turn at_epoch : ℕ) (answers : List Answer) (a b : At) : Type 0 where
    pub none : (turn ≡ 0) × (at_epoch ≡ 0) × (answers ≡ [])
    pub looks : (b.passes ≡ a.passes) ⊎ ((look : BlueEntry) × GainsLook a.passes look b.passes × (look.reply ≡ blue_reply.Look looks.NoMemory))
    pub same : (b.standing ≡ a.standing) × (b.faults ≡ a.faults) × (b.steps ≡ a.steps)

  -- ---- definition runs

  -- A definition run of a script at a moment, whole or not.
  pub data Evaluates (script : Bytes) (moment : Moment) (a : At) (e : Evaled) (b : At) : Type 0 where
    whole : (outcome : Outcome) (turns : List Turn)
        → RunsWhole (λ look. define_run names look.before script moment) moment e.turn e.epoch e.answers outcome turns a b
        → e.outcome ≡ evaluated outcome (epoch_behind e.epoch turns) → Evaluates script moment a e b
    lost : RunsLost (λ look. define_run names look.before script moment) moment e.turn e.epoch e.answers a b
        → e.outcome ≡ evals.NoMemory → Evaluates script moment a e b
    unbegun : RunsNot e.turn e.epoch e.answers a b → e.outcome ≡ evals.NoMemory → Evaluates script moment a e b

  -- ---- scheduled scripts

  -- A script that was due: the clock is read once, and then it runs, whole or not.
  pub data RunsDue (due : DueScript) (a : At) (x : Ran) (b : At) : Type 0 where
    due_whole : (turns : List Turn) → x.id ≡ due.id → Ticks a.clock x.moment b.clock
        → RunsWhole (λ look. script_run names look.before due.script x.moment) x.moment x.turn x.epoch x.answers x.outcome turns a b
        → RunsDue due a x b
    due_lost : x.id ≡ due.id → Ticks a.clock x.moment b.clock
        → RunsLost (λ look. script_run names look.before due.script x.moment) x.moment x.turn x.epoch x.answers a b
        → x.outcome ≡ outcomes.NoMemory → RunsDue due a x b
    due_unbegun : x.id ≡ due.id → Ticks a.clock x.moment b.clock → RunsNot x.turn x.epoch x.answers a b
        → x.outcome ≡ outcomes.NoMemory → RunsDue due a x b

  -- All of them, one after the other: want of memory in one keeps none behind it from running.
  abbrev pub RunsAll : List DueScript → At → List Ran → At → Type 0
  RunsAll [] a [] b = b ≡ a
  RunsAll (due ∷ list) a (x ∷ xs) b = (m : At) × RunsDue due a x m × RunsAll list m xs b
  RunsAll _ a _ b = ⊥

  -- what the schedule was asked, and what it replied
  pub record AsksDue (a : At) (reply : SchedReply) (b : At) : Type 0 where
    pub moment : Moment
    pub entry : ScheduleEntry
    pub ticks : Ticks a.clock moment b.clock
    pub call : entry.call ≡ schedule.Due moment
    pub reply_is : entry.reply ≡ reply
    pub gains : GainsTurns a.passes (OnSchedule entry ∷ []) b.passes
    pub same : (b.standing ≡ a.standing) × (b.faults ≡ a.faults) × (b.steps ≡ a.steps)

  -- What `run_due` does by what it answers: one turn on the schedule at the first reading of the clock; then, where that listed scripts,
  -- each of them. `Stopped` is answered exactly where the schedule was stopped. Where memory wanted none was run.
  abbrev pub RunsWhatIsDue : At → DueRun → At → Type 0
  RunsWhatIsDue a (runs.Ran ran) b =
      (list : List DueScript) × (m : At) × AsksDue a (scheduled.Due list) m × RunsAll list m (listed ran) b
  RunsWhatIsDue a runs.Stopped b = AsksDue a scheduled.Stopped b
  RunsWhatIsDue a runs.NoMemory b =
      AsksDue a scheduled.NoMemory b ⊎ ((due : DueScript) × (list : List DueScript) × AsksDue a (scheduled.Due (due ∷ list)) b)
