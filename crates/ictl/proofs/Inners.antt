-- Runs inside.
use Rattle.std.proofs.Common.{◌≡◌, ℕ, ◌+◌, ◌<◌, ◌≤◌, List, [], sym, subst, ap, ◌∙◌, arith, Option, Some, None}
use Rattle.txt_core.specs.Number.{number}
use Rattle.natives.specs.Words.{arg}
use Rattle.outside.specs.declared.question.Answer.{Answer}
use Rattle.cmd_table.specs.Commands.{Writes}
use Rattle.server_host.specs.declared.edition.Edition.{Edition}
use Rattle.server_host.specs.Hosts.{HostState, defining}
use Rattle.server_host.specs.Leaf.{host_table}
use Rattle.tcl_eval.specs.State.{State, Given}
use Rattle.tcl_eval.specs.Eval.{eval}
use Rattle.tcl_eval.specs.Engine.{at_global, state_of as engine_state}
use Rattle.tcl_eval.specs.declared.engine.Engine.{Engine}
use Rattle.tcl_eval.specs.declared.outcome.Work.TheVariants as works
use Rattle.ictl.specs.Fresh.{Fresh, define_state}
use Rattle.ictl.specs.Settle.{Defined, sunk, settle}
use Rattle.ictl.specs.Defines.{define_end, no_inner, depth_of, at_depth, inner_run}
use Rattle.ictl.specs.Standing.{comes_to}
use Rattle.ictl.specs.Falls.{DefineFalls, define_number}
use Rattle.ictl.specs.declared.running.Running.{Running}
use Rattle.ictl.specs.declared.running.Stop.{Stop}
use Rattle.ictl.specs.declared.defining.DefineRun.{DefineRun}
use Rattle.ictl.specs.declared.defining.DefineStop.{DefineStop}
use Rattle.ictl.specs.declared.defining.DefineStop.TheVariants as defines
use Rattle.tcl_eval.specs.Laws.{state_in}
use Rattle.ictl.specs.Within.{defined_own, RunWrites}
use Rattle.ictl.proofs.Settles.{settle_same}
use Rattle.ictl.proofs.Growing.{define_writes}

module _ (names : List (List ℕ)) (blueprint : Edition) (moment : ℕ) where
  -- the state with which a definition run begins
  pub begun_state : (engine : Engine HostState) (host : HostState) → engine_state engine ≡ Fresh names blueprint → host ≡ defining moment engine.host.blueprint
      → engine_state (record engine { host = host }) ≡ define_state names blueprint moment
  begun_state engine host fresh is =
      ap (λ (s : State HostState). let t : State HostState = record s { host = host } in t) fresh
      ∙ ap (λ (h : HostState). let t : State HostState = record (Fresh names blueprint) { host = h } in t)
      (is ∙ ap (λ (s : State HostState). defining moment s.host.blueprint) fresh)

  -- at no depth it is too deep
  pub sunk_begun : (engine : Engine HostState) (host : HostState) (words : List (List ℕ)) (budget questions : ℕ) (further : List Answer)
      → engine_state engine ≡ Fresh names blueprint → host ≡ defining moment engine.host.blueprint → None ≡ depth_of (number (arg words 1))
      → sunk (engine_state (record engine { host = host })) further ≡ inner_run names blueprint moment words budget questions further
  sunk_begun engine host words budget questions further fresh is none =
      ap (λ (s : State HostState). sunk s further) (begun_state engine host fresh is)
      ∙ ap (λ (d : Option ℕ). at_depth names blueprint moment d (arg words 0) budget questions further) none

  -- and else it runs there
  pub begun : (engine : Engine HostState) (host : HostState) (words : List (List ℕ)) (budget questions depth : ℕ) (script : List ℕ) (came : Stop) (run : Running) (further : List Answer) (reached : Defined)
      → engine_state engine ≡ Fresh names blueprint → host ≡ defining moment engine.host.blueprint → Some depth ≡ depth_of (number (arg words 1)) → script ≡ arg words 0
      → ((given : Given) → eval names host_table depth (works.Script script) (at_global (engine_state (record engine { host = host }))) budget given ≡ comes_to names came run given)
      → reached ≡ define_end (settle (no_inner names blueprint moment) questions 0 (comes_to names came run) further)
      → reached ≡ inner_run names blueprint moment words budget questions further
  begun engine host words budget questions depth script came run further reached fresh is some script_is comes h =
      h
      ∙ ap define_end (settle_same (no_inner names blueprint moment) questions 0 (comes_to names came run) (eval names host_table depth (works.Script script) (define_state names blueprint moment) budget)
      (λ given. sym (comes given) ∙ ap (λ (s : State HostState). eval names host_table depth (works.Script script) (at_global s) budget given) (begun_state engine host fresh is)) further)
      ∙ ap (λ (t : List ℕ). define_end (settle (no_inner names blueprint moment) questions 0 (eval names host_table depth (works.Script t) (define_state names blueprint moment) budget) further)) script_is
      ∙ ap (λ (d : Option ℕ). at_depth names blueprint moment d (arg words 0) budget questions further) some

  -- what it wrote
  pub begun_counts : (engine : Engine HostState) (build first made after wrote : ℕ) → engine_state engine ≡ Fresh names blueprint → made ≡ first + build
      → after + Writes engine.made ≡ made + wrote → after ≡ first + (build + wrote)
  begun_counts engine build first made after wrote fresh made_is counted =
      let none : Writes engine.made ≡ 0 = ap (λ (s : State HostState). Writes s.made) fresh in
      omega (arith, made_is, counted, none)

-- a definition run that stopped asks less than this
pub stop_less : (stop : DefineStop) (d : DefineRun) (bound : ℕ) → d.questions + 1 < bound → DefineFalls stop d bound
stop_less (defines.Stands question) d bound less = by_value d.value
  where
    by_value : (v : Option (List ℕ)) → define_number d.questions v < bound
    by_value None = less
    by_value (Some value) = omega (arith, less)
stop_less (defines.Said answer) d bound less = tt
stop_less defines.Gone d bound less = tt
stop_less defines.Sunk d bound less = tt

-- ---- where memory wants

module _ (names : List (List ℕ)) (blueprint : Edition) (moment : ℕ) where
  -- nothing was written at its beginning
  pub none_begun : (engine : Engine HostState) (most : ℕ) → engine_state engine ≡ Fresh names blueprint → Writes engine.made ≤ most
  none_begun engine most fresh = let none : Writes engine.made ≡ 0 = ap (λ (s : State HostState). Writes s.made) fresh in omega (arith, none)

  -- and then no more than its script writes
  pub begun_writes : (engine : Engine HostState) (host : HostState) (words : List (List ℕ)) (budget questions depth made : ℕ) (script : List ℕ)
      → engine_state engine ≡ Fresh names blueprint → host ≡ defining moment engine.host.blueprint → Some depth ≡ depth_of (number (arg words 1)) → script ≡ arg words 0
      → RunWrites made (eval names host_table depth (works.Script script) (at_global (engine_state (record engine { host = host }))) budget)
      → made ≤ defined_own (inner_run names blueprint moment words budget questions [])
  begun_writes engine host words budget questions depth made script fresh is some script_is h =
      subst (λ (d : Option ℕ). made ≤ defined_own (at_depth names blueprint moment d (arg words 0) budget questions [])) some
      (subst (λ (t : List ℕ). made ≤ defined_own (define_end (settle (no_inner names blueprint moment) questions 0 (eval names host_table depth (works.Script t) (define_state names blueprint moment) budget) []))) script_is
      (define_writes (no_inner names blueprint moment) made questions 0 (eval names host_table depth (works.Script script) (define_state names blueprint moment) budget) []
      (λ given. subst (λ (s : State HostState). made ≤ Writes (state_in (eval names host_table depth (works.Script script) (at_global s) budget given)).made) (begun_state names blueprint moment engine host fresh is) (h given))))

  -- with what was written to make it
  pub begun_most : (engine : Engine HostState) (first made last wrote build own : ℕ) → engine_state engine ≡ Fresh names blueprint → made ≡ first + build → last + Writes engine.made ≡ made + wrote → wrote ≤ own
      → last ≤ first + (build + own)
  begun_most engine first made last wrote build own fresh is counted most =
      let none : Writes engine.made ≡ 0 = ap (λ (s : State HostState). Writes s.made) fresh in omega (arith, none, is, counted, most)
