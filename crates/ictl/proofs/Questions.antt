-- A question without an answer.
use Rattle.std.proofs.Common.{◌≡◌, ℕ, List, [], refl, ap, ◌∙◌, Option, Some, None}
use Rattle.outside.specs.declared.question.Question.{Question}
use Rattle.server_host.specs.declared.edition.Edition.{Edition}
use Rattle.server_host.specs.Hosts.{HostState}
use Rattle.tcl_eval.specs.State.{State}
use Rattle.ictl.specs.Fresh.{build_steps}
use Rattle.ictl.specs.Settle.{account_of, Settled, asking, Defined, stands, with_inside, behind_inner}
use Rattle.ictl.specs.Main.{asks, defined_end}
use Rattle.ictl.specs.Standing.{state_of, define_at, onward, settling_at}
use Rattle.ictl.specs.Interps.{interp_state, task_end, asking_gives, goes_to}
use Rattle.ictl.specs.Laws.{QuestionsAreAsked}
use Rattle.ictl.specs.declared.running.Running.{Running}
use Rattle.ictl.specs.declared.running.Stop.TheVariants as stops
use Rattle.ictl.specs.declared.defining.DefineRun.{DefineRun}
use Rattle.ictl.specs.declared.inner.InnerRun.{InnerRun}
use Rattle.ictl.specs.declared.task.Task.{Task}
use Rattle.ictl.specs.declared.task.Task.TheVariants.{New, Preauth, Authorise, Postauth, PageAsked, Procedure, Page, Writing, Trace, Cleanup, Script, Define, Over}
use Rattle.ictl.specs.declared.interp.Interp.{Interp}

module _ (names : List (List ℕ)) (question : Question) where
  -- what stands at a question, asks it in any task
  task_asks : (task : Task) (i : Interp) (state : State HostState) (within : ℕ) → task_end names i task (asking question state within) ≡ asks question state within
  task_asks New i state within = refl
  task_asks (Preauth next) i state within = refl
  task_asks Authorise i state within = refl
  task_asks (Postauth next) i state within = refl
  task_asks (PageAsked path budget) i state within = refl
  task_asks Procedure i state within = refl
  task_asks Page i state within = refl
  task_asks (Writing ending) i state within = refl
  task_asks (Trace next ending) i state within = refl
  task_asks (Cleanup next ending) i state within = refl
  task_asks Script i state within = refl
  task_asks (Define defining) i state within = refl
  task_asks Over i state within = refl

  pub define_asks : (blueprint : Edition) (moment : ℕ) (run : Running) (defining : DefineRun) (value : Option (List ℕ)) → define_at names blueprint moment question run defining value [] ≡ stands question (state_of run)
  define_asks blueprint moment run defining None = refl
  define_asks blueprint moment run defining (Some value) = refl

  -- the entries that stand for what runs inside, at a question
  abbrev pub within_of : Interp → ℕ → Option InnerRun → ℕ
  within_of i inside None = inside
  within_of i inside (Some inner) = with_inside (build_steps names i.blueprint.value.defs) (account_of i.settling.run.engine.budget i.settling.questions inside) (state_of inner.run)

  settling_asks : (i : Interp) (inside : ℕ) (inner : Option InnerRun)
      → settling_at names i.blueprint.value i.moment question i.settling inner inside [] ≡ asking question (interp_state i) (within_of i inside inner)
  settling_asks i inside None = refl
  settling_asks i inside (Some inner) =
      ap (λ (x : Defined). behind_inner (build_steps names i.blueprint.value.defs) x (interp_state i) (account_of i.settling.run.engine.budget i.settling.questions inside) (onward names i.blueprint.value i.moment question i.settling))
      (define_asks i.blueprint.value i.moment inner.run inner.defining inner.defining.value)

  pub script_asks : (i : Interp) (inside : ℕ) → goes_to names (stops.Asks question) inside i [] ≡ asks question (interp_state i) (within_of i inside i.settling.inner)
  script_asks i inside =
      ap (λ (x : Settled). task_end names i i.task x) (settling_asks i inside i.settling.inner)
      ∙ task_asks i.task i (interp_state i) (within_of i inside i.settling.inner)

  abbrev Asked : Interp → ℕ → Task → Type 0
  Asked i inside task = (state : State HostState) × (within : ℕ) × (asking_gives names question task inside i [] ≡ asks question state within)

  by_task : (i : Interp) (inside : ℕ) (task : Task) → Asked i inside task
  by_task i inside (PageAsked path budget) = (interp_state i, inside, refl)
  by_task i inside (Define defining) =
      (interp_state i, inside, ap (λ (x : Defined). defined_end inside x) (define_asks i.blueprint.value i.moment i.settling.run defining defining.value))
  by_task i inside New = (interp_state i, within_of i inside i.settling.inner, script_asks i inside)
  by_task i inside (Preauth next) = (interp_state i, within_of i inside i.settling.inner, script_asks i inside)
  by_task i inside Authorise = (interp_state i, within_of i inside i.settling.inner, script_asks i inside)
  by_task i inside (Postauth next) = (interp_state i, within_of i inside i.settling.inner, script_asks i inside)
  by_task i inside Procedure = (interp_state i, within_of i inside i.settling.inner, script_asks i inside)
  by_task i inside Page = (interp_state i, within_of i inside i.settling.inner, script_asks i inside)
  by_task i inside (Writing ending) = (interp_state i, within_of i inside i.settling.inner, script_asks i inside)
  by_task i inside (Trace next ending) = (interp_state i, within_of i inside i.settling.inner, script_asks i inside)
  by_task i inside (Cleanup next ending) = (interp_state i, within_of i inside i.settling.inner, script_asks i inside)
  by_task i inside Script = (interp_state i, within_of i inside i.settling.inner, script_asks i inside)
  by_task i inside Over = (interp_state i, within_of i inside i.settling.inner, script_asks i inside)

pub questions_are_asked : QuestionsAreAsked
questions_are_asked = λ names question i inside. by_task names question i inside i.task
