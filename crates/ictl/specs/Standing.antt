-- What a script stands for that has come so far, with the run inside it, if there is one.
use Rattle.std.specs.Prelude.{◌≡◌, ℕ, ◌+◌, List, ◌∷◌, Option, Some, None}
use Rattle.txt_core.specs.Names.{Bytes, Names, Moment}
use Rattle.outside.specs.declared.question.Answer.{Answer}
use Rattle.outside.specs.declared.question.Question.{Question}
use Rattle.cmd_table.specs.Commands.{Writes}
use Rattle.server_host.specs.declared.edition.Edition.{Edition}
use Rattle.server_host.specs.Hosts.{HostState}
use Rattle.server_host.specs.Leaf.{host_table}
use Rattle.tcl_eval.specs.State.{State, Given}
use Rattle.tcl_eval.specs.Engine.{state_of as engine_state, comes_to as engine_comes_to}
use Rattle.tcl_eval.specs.declared.outcome.Outcome.{Outcome}
use Rattle.tcl_eval.specs.declared.outcome.Outcome.TheVariants as outcomes
use Rattle.ictl.specs.Fresh.{build_steps}
use Rattle.ictl.specs.Settle.{Run, account_of, Settled, ended, exhausted, nested, Defined, said, gone, sunk, Onward, behind_inner, behind_other, settle}
use Rattle.ictl.specs.Defines.{no_inner, publishing, define_end, inner_runs}
use Rattle.ictl.specs.declared.running.Running.{Running}
use Rattle.ictl.specs.declared.running.Stop.{Stop}
use Rattle.ictl.specs.declared.running.Stop.TheVariants.{Ended, Asks, Spent, TooDeep}
use Rattle.ictl.specs.declared.defining.DefineRun.{DefineRun}
use Rattle.ictl.specs.declared.defining.DefineStop.{DefineStop}
use Rattle.ictl.specs.declared.defining.DefineStop.TheVariants as defines
use Rattle.ictl.specs.declared.inner.InnerRun.{InnerRun}
use Rattle.ictl.specs.declared.settling.Settling.{Settling}

-- ---- a run

abbrev pub state_of : Running → State HostState
state_of run = engine_state run.engine

-- what an engine answered where a run stopped so
abbrev pub outcome_at : Stop → Outcome
outcome_at (Ended code result) = outcomes.Done code result
outcome_at (Asks question) = outcomes.Asks question
outcome_at Spent = outcomes.Spent
outcome_at TooDeep = outcomes.TooDeep

-- what comes of a run that stopped so, with what is given further
abbrev pub comes_to : Names → Stop → Running → Run
comes_to names stop run = engine_comes_to names host_table (outcome_at stop) run.engine

-- where a run stopped so behind an answer that used so much of the budget, it comes to what it came to at its question, with that answer
abbrev pub RunsOn : Names → ℕ → Answer → Stop → Running → Running → Type 0
RunsOn names used answer stop new old =
    (question : Question) (given : Given) → comes_to names stop new given ≡ comes_to names (Asks question) old ((answer, used) ∷ given)

-- ---- what was written

-- In a call each entry was counted that the run wrote in its own command table, and nothing else.
abbrev pub CountsMade : ℕ → ℕ → Running → Running → Type 0
CountsMade after before new old = after + Writes old.engine.made ≡ before + Writes new.engine.made

-- the entries of its own command table that a run inside has written, from its making on
abbrev pub inner_written : Names → Edition → Option InnerRun → ℕ
inner_written names blueprint None = 0
inner_written names blueprint (Some inner) = build_steps names blueprint.defs + Writes inner.run.engine.made

-- the entries that a script has written so far in its own command table, with those of the run inside that hasn't ended
abbrev pub written : Names → Edition → Settling → ℕ
written names blueprint settling = Writes settling.run.engine.made + inner_written names blueprint settling.inner

module _ (names : Names) (blueprint : Edition) (moment : Moment) where
  -- ---- a definition run

  -- It stands at a question: that of its script, or whether to publish, where its script's result is there.
  abbrev pub define_at : Question → Running → DefineRun → Option Bytes → List Answer → Defined
  define_at question run defining None answers =
      define_end (behind_other question (state_of run) 0 answers
      (λ answer inside left. settle (no_inner names blueprint moment) defining.questions inside (λ given. comes_to names (Asks question) run (answer ∷ given)) left))
  define_at question run defining (Some value) answers = publishing question value run.engine.budget (state_of run) answers

  abbrev pub define_gives : DefineStop → Running → DefineRun → List Answer → Defined
  define_gives (defines.Stands question) run defining answers = define_at question run defining defining.value answers
  define_gives (defines.Said answer) run defining answers = said answer run.engine.budget (state_of run) answers
  define_gives defines.Gone run defining answers = gone (state_of run) answers
  define_gives defines.Sunk run defining answers = sunk (state_of run) answers

  -- ---- a script with its runs inside

  -- how a script goes on behind its question
  abbrev pub onward : Question → Settling → Onward
  onward question s answer inside left =
      settle (inner_runs names blueprint moment) s.questions inside (λ given. comes_to names (Asks question) s.run (answer ∷ given)) left

  -- A script at a question that goes out: its own, or that of the run inside. The runs inside that have ended wrote so much.
  abbrev pub settling_at : Question → Settling → Option InnerRun → ℕ → List Answer → Settled
  settling_at question s None inside answers = behind_other question (state_of s.run) inside answers (onward question s)
  settling_at question s (Some inner) inside answers =
      behind_inner (build_steps names blueprint.defs) (define_at question inner.run inner.defining inner.defining.value answers)
      (state_of s.run) (account_of s.run.engine.budget s.questions inside) (onward question s)

  abbrev pub settling_gives : Stop → Settling → ℕ → List Answer → Settled
  settling_gives (Ended code result) s inside answers =
      ended code result (state_of s.run) (account_of s.run.engine.budget s.questions inside) answers
  settling_gives (Asks question) s inside answers = settling_at question s s.inner inside answers
  settling_gives Spent s inside answers = exhausted (state_of s.run) inside answers
  settling_gives TooDeep s inside answers = nested (state_of s.run) inside answers
