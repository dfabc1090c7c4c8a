-- What calls stay within, also where memory wants.
use Rattle.std.proofs.Common.{◌≡◌, ℕ, ◌+◌, ◌-◌, ◌≤◌, List, [], ◌∷◌, refl, sym, subst, ap, ◌∙◌, arith, Option, Some, None, Result, Ok, Err}
use Rattle.std.specs.Prelude.{IfOk, OnErr, MatchResult}
use Rattle.outside.specs.declared.question.Answer.{Answer}
use Rattle.outside.specs.declared.question.Question.{Question}
use Rattle.cmd_table.specs.Commands.{Writes}
use Rattle.server_host.specs.declared.edition.Edition.{Edition}
use Rattle.server_host.specs.Hosts.{HostState}
use Rattle.server_host.specs.Leaf.{host_table}
use Rattle.tcl_eval.specs.State.{State, Given, Out}
use Rattle.tcl_eval.specs.Eval.{eval}
use Rattle.tcl_eval.specs.Engine.{at_global, with_more, comes_to as engine_comes_to}
use Rattle.tcl_eval.specs.declared.engine.Engine.{Engine}
use Rattle.tcl_eval.specs.declared.outcome.Work.{Work}
use Rattle.tcl_eval.specs.declared.outcome.Work.TheVariants as works
use Rattle.tcl_eval.specs.declared.outcome.Outcome.TheVariants as outcomes
use Rattle.ictl.specs.declared.running.Running.{Running}
use Rattle.tcl_eval.specs.Laws.{IsFront, MadeGrows, MadeGrowsOn, state_in}
use Rattle.ictl.specs.Fresh.{build_steps, define_state, outset}
use Rattle.ictl.specs.Settle.{Run, account_of, Settled, ended, asking, exhausted, nested, Defined, said, stands, gone, sunk, behind_inner, settle}
use Rattle.ictl.specs.Defines.{inner_runs, no_inner, define_end}
use Rattle.http_resp.specs.declared.response.Response.{Response}
use Rattle.txt_core.specs.Limits.{run_budget}
use Rattle.ictl.specs.Main.{Progress, Define as define_run, run_questions, first_depth, asks, writes, defined_end, runs}
use Rattle.ictl.specs.declared.ending.Ending.{Ending}
use Rattle.ictl.specs.declared.defining.DefineRun.{DefineRun}
use Rattle.ictl.specs.Standing.{state_of, comes_to, onward, written, inner_written, define_at, define_gives, settling_at}
use Rattle.ictl.specs.Interps.{interp_state, interp_written, own_written, all_written, IsWithin, IsNew, task_end, asking_gives, goes_to, gives, move_gives}
use Rattle.ictl.specs.Falls.{TaskAsks, StandsAt, GoesOut}
use Rattle.ictl.specs.Within.{settled_own, settled_all, defined_own, RunWrites, SettledWrites, HasWritten, SettledWithin}
use Rattle.ictl.specs.declared.running.Stop.TheVariants as stops
use Rattle.ictl.specs.declared.defining.DefineStop.{DefineStop}
use Rattle.ictl.specs.declared.defining.DefineStop.TheVariants as defines
use Rattle.ictl.specs.declared.inner.InnerRun.{InnerRun}
use Rattle.ictl.specs.declared.settling.Settling.{Settling}
use Rattle.ictl.specs.declared.task.Task.{Task}
use Rattle.ictl.specs.declared.task.Task.TheVariants.{New, Preauth, Authorise, Postauth, PageAsked, Procedure, Page, Writing, Trace, Cleanup, Script, Define, Over}
use Rattle.ictl.specs.declared.task.Move.{Move}
use Rattle.ictl.specs.declared.next.Next.{Next}
use Rattle.ictl.specs.declared.next.Next.TheVariants.{Asks, Write, Ended, NoMemory}
use Rattle.ictl.specs.declared.interp.Interp.{Interp}
use Rattle.ictl.proofs.Interpreters.{outset_written}
use Rattle.ictl.proofs.Beginnings.{define_begins}
use Rattle.ictl.proofs.Growing.{front_writes, settle_writes, define_writes, inner_writes, asked_grows, task_writes}
use Rattle.ictl.proofs.Questions.{within_of, script_asks, define_asks}

-- what follows from what a call says of want of memory
pub err_same : {A E : Type 0} (r : Result A E) (P Q : Type 0) → (P → Q) → OnErr r P → OnErr r Q
err_same (Ok a) P Q goes h = tt
err_same (Err e) P Q goes h = goes h

pub either : {A E : Type 0} (r : Result A E) (P : Type 0) → OnErr r P → IfOk r (λ a. P) → P
either (Ok a) P wants good = good
either (Err e) P wants good = wants

pub wants : {A E : Type 0} (r : Result A E) (P : Type 0) → P → OnErr r P
wants (Ok a) P h = tt
wants (Err e) P h = h

-- ---- engines

-- what an engine has made where it was begun
pub began_writes : (names : List (List ℕ)) (depth budget : ℕ) (work : Work) (from state : State HostState) (new : Engine HostState) → from ≡ state
    → ((given : Given) → IsFront new.made (state_in (eval names host_table depth work from budget given)).made) → RunWrites (Writes new.made) (eval names host_table depth work state budget)
began_writes names depth budget work from state new same front = λ given.
    front_writes new.made _ (subst (λ (s : State HostState). IsFront new.made (state_in (eval names host_table depth work s budget given)).made) same (front given))

-- and where it went on with an answer
pub went_writes : (names : List (List ℕ)) (new charged : Engine HostState) (old : Running) (answer : Answer) (charge : ℕ) → with_more charged charge ≡ old.engine
    → ((question : Question) (charge : ℕ) (further : Given) → IsFront new.made (state_in (engine_comes_to names host_table (outcomes.Asks question) (with_more charged charge) ((answer, charge) ∷ further))).made)
    → (question : Question) → RunWrites (Writes new.made) (λ given. comes_to names (stops.Asks question) old ((answer, charge) ∷ given))
went_writes names new charged old answer charge same front question = λ given.
    front_writes new.made _ (subst (λ (e : Engine HostState). IsFront new.made (state_in (engine_comes_to names host_table (outcomes.Asks question) e ((answer, charge) ∷ given))).made) same (front question charge given))

-- ---- scripts

-- what stays within a run behind an earlier call
pub settled_from : (one two first middle last : ℕ) (new : Settling) (x : Settled) → one + middle ≤ two + first → SettledWithin two middle last new x → SettledWithin one first last new x
settled_from one two first middle last new x le h = record { own = h.own; all = let a = h.all in omega (arith, le, a) }

module _ (names : List (List ℕ)) (blueprint : Edition) where
  -- behind a call of its engine
  pub called_within : (old new : Settling) (inside first last : ℕ) (x : Settled) → old.inner ≡ None → last + Writes old.run.engine.made ≡ first + Writes new.run.engine.made
      → SettledWrites (Writes new.run.engine.made) inside x → SettledWithin (inside + written names blueprint old) first last new x
  called_within old new inside first last x none counted h =
      let was : inner_written names blueprint old.inner ≡ 0 = ap (λ (i : Option InnerRun). inner_written names blueprint i) none in
      record { own = h.own; all = let a = h.all in omega (arith, was, counted, a) }

  -- the same of a script that begins
  pub started_within : (moment : ℕ) (old new : Settling) (run : Run) (inside first last : ℕ) → old.inner ≡ None → last + Writes old.run.engine.made ≡ first + Writes new.run.engine.made
      → RunWrites (Writes new.run.engine.made) run → SettledWithin (inside + written names blueprint old) first last new (settle (inner_runs names blueprint moment) old.questions inside run [])
  started_within moment old new run inside first last none counted h =
      called_within old new inside first last (settle (inner_runs names blueprint moment) old.questions inside run []) none counted
      (settle_writes (inner_runs names blueprint moment) (Writes new.run.engine.made) old.questions inside run [] h)

  -- behind the end of a run inside
  pub charged_within : (old new : Settling) (inside build inner first last : ℕ) (x : Settled) → old.inner ≡ None → last + Writes old.run.engine.made ≡ first + Writes new.run.engine.made
      → SettledWrites (Writes new.run.engine.made) (inside + (build + inner)) x → SettledWithin (inside + (written names blueprint old + (build + inner))) first last new x
  charged_within old new inside build inner first last x none counted h =
      let was : inner_written names blueprint old.inner ≡ 0 = ap (λ (i : Option InnerRun). inner_written names blueprint i) none in
      record { own = h.own; all = let a = h.all in omega (arith, was, counted, a) }

  -- where memory wanted for a run inside that was begun
  pub begun_within : (old : Settling) (inside build inner first last : ℕ) (x : Settled) → old.inner ≡ None → last ≤ first + (build + inner)
      → SettledWrites (Writes old.run.engine.made) (inside + (build + inner)) x → SettledWithin (inside + written names blueprint old) first last old x
  begun_within old inside build inner first last x none most h =
      let was : inner_written names blueprint old.inner ≡ 0 = ap (λ (i : Option InnerRun). inner_written names blueprint i) none in
      record { own = h.own; all = let a = h.all in omega (arith, was, most, a) }

  -- or that went on
  pub inside_within : (old : Settling) (rest : Option InnerRun) (inner now : InnerRun) (inside own first last : ℕ) (x : Settled) → old.inner ≡ Some inner
      → last + Writes inner.run.engine.made ≡ first + Writes now.run.engine.made → Writes now.run.engine.made ≤ own
      → SettledWrites (Writes old.run.engine.made) (inside + (build_steps names blueprint.defs + own)) x → SettledWithin (inside + written names blueprint old) first last (record old { inner = rest }) x
  inside_within old rest inner now inside own first last x some counted most h =
      let was : inner_written names blueprint old.inner ≡ build_steps names blueprint.defs + Writes inner.run.engine.made = ap (λ (i : Option InnerRun). inner_written names blueprint i) some in
      record { own = h.own; all = let a = h.all in omega (arith, was, counted, most, a) }

-- where memory wanted behind the answer of a run inside
pub said_within : (names : List (List ℕ)) (blueprint : Edition) (moment : ℕ) (question : Question) (answer : Answer) (used : ℕ) (stop : DefineStop) (inner : InnerRun) (new s : Settling) (inside first last : ℕ)
    → stop ≡ defines.Said answer → s.inner ≡ None → used ≡ s.run.engine.budget - inner.run.engine.budget → last + Writes s.run.engine.made ≡ first + Writes new.run.engine.made
    → RunWrites (Writes new.run.engine.made) (λ given. comes_to names (stops.Asks question) s.run ((answer, used) ∷ given))
    → SettledWithin (inside + (written names blueprint s + inner_written names blueprint (Some inner))) first last new
    (behind_inner (build_steps names blueprint.defs) (define_gives names blueprint moment stop inner.run inner.defining []) (state_of s.run) (account_of s.run.engine.budget s.questions inside) (onward names blueprint moment question s))
said_within names blueprint moment question answer used stop inner new s inside first last is none used_is counted h =
    subst (λ (t : DefineStop). SettledWithin (inside + (written names blueprint s + inner_written names blueprint (Some inner))) first last new
    (behind_inner (build_steps names blueprint.defs) (define_gives names blueprint moment t inner.run inner.defining []) (state_of s.run) (account_of s.run.engine.budget s.questions inside) (onward names blueprint moment question s))) (sym is)
    (charged_within names blueprint s new inside (build_steps names blueprint.defs) (Writes inner.run.engine.made) first last _ none counted
    (settle_writes (inner_runs names blueprint moment) (Writes new.run.engine.made) s.questions (inside + (build_steps names blueprint.defs + Writes inner.run.engine.made))
    (λ given. comes_to names (stops.Asks question) s.run ((answer, s.run.engine.budget - inner.run.engine.budget) ∷ given)) []
    (subst (λ (u : ℕ). RunWrites (Writes new.run.engine.made) (λ given. comes_to names (stops.Asks question) s.run ((answer, u) ∷ given))) used_is h)))

-- what a script comes to behind its question, it has written behind what stood there
pub onward_writes : (grows : MadeGrowsOn host_table) (names : List (List ℕ)) (blueprint : Edition) (moment : ℕ) (question : Question) (s : Settling) (answer : Answer × ℕ) (inside : ℕ) (left : List Answer)
    → SettledWrites (Writes s.run.engine.made) inside (onward names blueprint moment question s answer inside left)
onward_writes grows names blueprint moment question s answer inside left =
    settle_writes (inner_runs names blueprint moment) (Writes s.run.engine.made) s.questions inside (λ given. comes_to names (stops.Asks question) s.run (answer ∷ given)) left
    (λ given. front_writes s.run.engine.made _ (grows names question s.run.engine (answer ∷ given)))

-- the same with a run inside that came to this
pub behind_writes : (grows : MadeGrowsOn host_table) (names : List (List ℕ)) (blueprint : Edition) (moment : ℕ) (question : Question) (s : Settling) (inside build : ℕ) (x : Defined)
    → SettledWrites (Writes s.run.engine.made) (inside + (build + defined_own x))
    (behind_inner build x (state_of s.run) (account_of s.run.engine.budget s.questions inside) (onward names blueprint moment question s))
behind_writes grows names blueprint moment question s inside build x =
    inner_writes (Writes s.run.engine.made) build x (state_of s.run) (account_of s.run.engine.budget s.questions inside) (onward names blueprint moment question s) (omega arith)
    (onward_writes grows names blueprint moment question s)

-- where memory wanted behind the run inside, which went on with an answer
pub answered_within : (names : List (List ℕ)) (blueprint : Edition) (moment : ℕ) (question : Question) (answer : Answer) (came : DefineStop) (inner now : InnerRun) (rest : Option InnerRun) (old new : Settling) (inside first middle last : ℕ)
    → old.inner ≡ Some inner → rest ≡ None
    → middle + Writes inner.run.engine.made ≡ first + Writes now.run.engine.made
    → define_gives names blueprint moment came now.run now.defining [] ≡ define_at names blueprint moment question inner.run inner.defining inner.defining.value (answer ∷ [])
    → SettledWithin (inside + (written names blueprint (record old { inner = rest }) + inner_written names blueprint (Some now))) middle last new
    (behind_inner (build_steps names blueprint.defs) (define_gives names blueprint moment came now.run now.defining []) (state_of old.run) (account_of old.run.engine.budget old.questions inside) (onward names blueprint moment question old))
    → SettledWithin (inside + written names blueprint old) first last new (settling_at names blueprint moment question old old.inner inside (answer ∷ []))
answered_within names blueprint moment question answer came inner now rest old new inside first middle last some none counted defined h =
    let was : inner_written names blueprint old.inner ≡ build_steps names blueprint.defs + Writes inner.run.engine.made = ap (λ (i : Option InnerRun). inner_written names blueprint i) some in
    let gone : inner_written names blueprint rest ≡ 0 = ap (λ (i : Option InnerRun). inner_written names blueprint i) none in
    let w = inside + (written names blueprint (record old { inner = rest }) + inner_written names blueprint (Some now)) in
    settled_from (inside + written names blueprint old) w first middle last new _ (omega (arith, was, gone, counted))
    (subst (SettledWithin w middle last new)
    (ap (λ (x : Defined). behind_inner (build_steps names blueprint.defs) x (state_of old.run) (account_of old.run.engine.budget old.questions inside) (onward names blueprint moment question old)) defined
    ∙ sym (ap (λ (i : Option InnerRun). settling_at names blueprint moment question old i inside (answer ∷ [])) some)) h)

-- ---- interpreters

pub within_from : (one two first middle last : ℕ) (new : Interp) (run : Progress) → one + middle ≤ two + first → IsWithin two middle last new run → IsWithin one first last new run
within_from one two first middle last new run le h = record { own = h.own; all = let a = h.all in omega (arith, le, a) }

-- a script is within its run
own_least : (x : Settled) → settled_own x ≤ settled_all x
own_least (ended code result state account left) = omega arith
own_least (asking question state inside) = omega arith
own_least (exhausted state inside left) = omega arith
own_least (nested state inside left) = omega arith

pub task_within : (grows : MadeGrows host_table) (names : List (List ℕ)) (i : Interp) (task : Task) (x : Settled) (w first last : ℕ) (new : Interp) → SettledWithin w first last new.settling x
    → IsWithin w first last new (task_end names i task x)
task_within grows names i task x w first last new h =
    let least = own_least x in
    let one : HasWritten (settled_own x) 0 (task_end names i task x) = task_writes grows names i task x (settled_own x) 0 (record { own = omega arith; all = omega (arith, least) }) in
    let two : HasWritten 0 (settled_all x) (task_end names i task x) = task_writes grows names i task x 0 (settled_all x) (record { own = omega arith; all = omega arith }) in
    let a = h.all in let o = h.own in let b = two.all in let p = one.own in
    record { own = omega (arith, o, p); all = omega (arith, a, b) }

-- what was written before a response is written there
pub wrote_here : (response : Response) (ending : Ending) (state : State HostState) (inside : ℕ) (left : List Answer) → HasWritten (Writes state.made) inside (writes response ending state inside left)
wrote_here response ending state inside left = record { own = omega arith; all = omega arith }

-- or where a script was cut off
pub spent_written : (grows : MadeGrows host_table) (names : List (List ℕ)) (i : Interp) (inside : ℕ) → HasWritten (Writes (interp_state i).made) inside (goes_to names stops.Spent inside i [])
spent_written grows names i inside = task_writes grows names i i.task (exhausted (interp_state i) inside []) (Writes (interp_state i).made) inside (record { own = omega arith; all = omega arith })

pub deep_written : (grows : MadeGrows host_table) (names : List (List ℕ)) (i : Interp) (inside : ℕ) → HasWritten (Writes (interp_state i).made) inside (goes_to names stops.TooDeep inside i [])
deep_written grows names i inside = task_writes grows names i i.task (nested (interp_state i) inside []) (Writes (interp_state i).made) inside (record { own = omega arith; all = omega arith })

-- or where the first page is asked for
pub page_written : (grows : MadeGrows host_table) (names : List (List ℕ)) (question : Question) (i : Interp) (path : List ℕ) (budget inside : ℕ) (answers : List Answer) → i.task ≡ PageAsked path budget
    → HasWritten (Writes (interp_state i).made) inside (asking_gives names question i.task inside i answers)
page_written grows names question i path budget inside answers is =
    subst (λ (t : Task). HasWritten (Writes (interp_state i).made) inside (asking_gives names question t inside i answers)) (sym is)
    (asked_grows grows names i.blueprint.value i.moment question path (interp_state i) (account_of budget i.settling.questions inside) answers)

-- with a run that begins nothing was written
pub new_writes : (names : List (List ℕ)) (i : Interp) → IsNew names i → Writes (interp_state i).made ≡ 0
new_writes names i new = ap (λ (s : State HostState). Writes s.made) new.1.state

pub begun_none : (new : Interp) (steps : ℕ) (run : Progress) → Writes (interp_state new).made ≡ 0 → IsWithin 0 steps steps new run
begun_none new steps run none = record { own = omega (arith, none); all = omega arith }

-- within a run that comes to the same
pub within_as : {w first last : ℕ} {new : Interp} (one two : Progress) → one ≡ two → IsWithin w first last new one → IsWithin w first last new two
within_as {w} {first} {last} {new} one two is h = subst (IsWithin w first last new) is h

-- a definition run that stands for itself
pub defined_most : (new : Interp) (x : Defined) (inside w first last : ℕ) → Writes (interp_state new).made ≤ defined_own x → last + w ≤ first + (defined_own x + inside) → IsWithin w first last new (defined_end inside x)
defined_most new (said answer budget state left) inside w first last own all = record { own = own; all = all }
defined_most new (stands question state) inside w first last own all = record { own = own; all = all }
defined_most new (gone state left) inside w first last own all = record { own = own; all = all }
defined_most new (sunk state left) inside w first last own all = record { own = own; all = all }

-- and that wanted memory
pub define_bounded : (names : List (List ℕ)) (blueprint : Edition) (script text : List ℕ) (moment questions : ℕ) (old new : Interp) (first last : ℕ) (run : Run) (state : State HostState) → RunWrites (Writes (interp_state new).made) run
    → questions ≡ run_questions → ((given : Given) → run given ≡ eval names host_table first_depth (works.Script script) (at_global state) run_budget given)
    → state ≡ define_state names blueprint moment → script ≡ text → Writes (interp_state old).made ≡ 0
    → last + Writes (interp_state old).made ≡ first + Writes (interp_state new).made → IsWithin 0 first last new (define_run names blueprint text moment [])
define_bounded names blueprint script text moment questions old new first last run state h all came is same none counted =
    let made = define_writes (no_inner names blueprint moment) (Writes (interp_state new).made) questions 0 run [] h in
    subst (IsWithin 0 first last new) (define_begins names blueprint script text moment questions run state [] all came is same)
    (defined_most new (define_end (settle (no_inner names blueprint moment) questions 0 run [])) 0 0 first last made (omega (arith, made, none, counted)))

-- what a run comes to at a depth that is the first one
pub at_first : (names : List (List ℕ)) (script : List ℕ) (state : State HostState) (depth : ℕ) (run : Run) → depth ≡ first_depth
    → ((given : Given) → run given ≡ eval names host_table depth (works.Script script) (at_global state) run_budget given)
    → (given : Given) → run given ≡ eval names host_table first_depth (works.Script script) (at_global state) run_budget given
at_first names script state depth run is came given =
    came given ∙ ap (λ (d : ℕ). eval names host_table d (works.Script script) (at_global state) run_budget given) is

pub define_begins_at : (names : List (List ℕ)) (blueprint : Edition) (script text : List ℕ) (moment questions : ℕ) (run : Run) (state : State HostState) (further : List Answer) (depth : ℕ)
    → depth ≡ first_depth → questions ≡ run_questions → ((given : Given) → run given ≡ eval names host_table depth (works.Script script) (at_global state) run_budget given)
    → state ≡ define_state names blueprint moment → script ≡ text
    → defined_end 0 (define_end (settle (no_inner names blueprint moment) questions 0 run further)) ≡ define_run names blueprint text moment further
define_begins_at names blueprint script text moment questions run state further depth depth_is all came is same =
    define_begins names blueprint script text moment questions run state further all (at_first names script state depth run depth_is came) is same

pub define_bounded_at : (names : List (List ℕ)) (blueprint : Edition) (script text : List ℕ) (moment questions : ℕ) (old new : Interp) (first last : ℕ) (run : Run) (state : State HostState) (depth : ℕ)
    → depth ≡ first_depth → RunWrites (Writes (interp_state new).made) run
    → questions ≡ run_questions → ((given : Given) → run given ≡ eval names host_table depth (works.Script script) (at_global state) run_budget given)
    → state ≡ define_state names blueprint moment → script ≡ text → Writes (interp_state old).made ≡ 0
    → last + Writes (interp_state old).made ≡ first + Writes (interp_state new).made → IsWithin 0 first last new (define_run names blueprint text moment [])
define_bounded_at names blueprint script text moment questions old new first last run state depth depth_is h all came is same none counted =
    define_bounded names blueprint script text moment questions old new first last run state h all (at_first names script state depth run depth_is came) is same none counted

-- the same where the script's run itself was cut off
pub define_cut : (names : List (List ℕ)) (blueprint : Edition) (script text : List ℕ) (moment : ℕ) (old new : Interp) (first last : ℕ) (state : State HostState)
    (made depth budget : ℕ) (work : Work) (from : State HostState) (others : List (List ℕ))
    → RunWrites made (eval others host_table depth work from budget)
    → others ≡ names → made ≡ Writes (interp_state new).made → depth ≡ first_depth → work ≡ works.Script script → from ≡ at_global state → budget ≡ run_budget
    → state ≡ define_state names blueprint moment → script ≡ text → Writes (interp_state old).made ≡ 0
    → last + Writes (interp_state old).made ≡ first + Writes (interp_state new).made → IsWithin 0 first last new (define_run names blueprint text moment [])
define_cut names blueprint script text moment old new first last state made depth budget work from others h others_is made_is depth_is work_is from_is budget_is is same none counted =
    define_bounded names blueprint script text moment run_questions old new first last (eval others host_table depth work from budget) state
    (subst (λ (n : ℕ). RunWrites n (eval others host_table depth work from budget)) made_is h) refl
    (λ given.
    ap (λ (n : List (List ℕ)). eval n host_table depth work from budget given) others_is
    ∙ (ap (λ (d : ℕ). eval names host_table d work from budget given) depth_is
    ∙ (ap (λ (w : Work). eval names host_table first_depth w from budget given) work_is
    ∙ (ap (λ (s : State HostState). eval names host_table first_depth (works.Script script) s budget given) from_is
    ∙ ap (λ (b : ℕ). eval names host_table first_depth (works.Script script) (at_global state) b given) budget_is))))
    is same none counted

module _ (names : List (List ℕ)) where
  -- where nothing was written
  pub none_within : (old new : Interp) (inside steps : ℕ) (run : Progress) → old.settling.inner ≡ None → Writes (interp_state new).made ≡ Writes (interp_state old).made
      → HasWritten (Writes (interp_state old).made) inside run → IsWithin (inside + interp_written names old) steps steps new run
  none_within old new inside steps run none same h =
      let was : inner_written names old.blueprint.value old.settling.inner ≡ 0 = ap (λ (i : Option InnerRun). inner_written names old.blueprint.value i) none in
      let o = h.own in let a = h.all in
      record { own = omega (arith, o, same); all = omega (arith, was, a) }

  -- where the task alone is another
  pub rest_within : (old new : Interp) (inside steps : ℕ) (run : Progress) → old.settling.inner ≡ None → ((task : Task) × (new ≡ record old { task = task }))
      → HasWritten (Writes (interp_state old).made) inside run → IsWithin (inside + interp_written names old) steps steps new run
  rest_within old new inside steps run none rest h = none_within old new inside steps run none (ap (λ (i : Interp). Writes (interp_state i).made) rest.1) h

  -- a call behind another one
  pub within_on : (old between new : Interp) (inside first middle last : ℕ) (reached run : Progress) → first + interp_written names between ≤ middle + interp_written names old → reached ≡ run
      → IsWithin ((inside + ((middle + interp_written names old) - (first + interp_written names between))) + interp_written names between) middle last new reached
      → IsWithin (inside + interp_written names old) first last new run
  within_on old between new inside first middle last reached run counted is h =
      within_from (inside + interp_written names old) ((inside + ((middle + interp_written names old) - (first + interp_written names between))) + interp_written names between) first middle last new run
      (omega (arith, counted))
      (subst (IsWithin ((inside + ((middle + interp_written names old) - (first + interp_written names between))) + interp_written names between) middle last new) is h)

  -- a step, and then on until memory wanted
  pub moved_within : (step : Move) (old between new : Interp) (inside first middle last : ℕ) (run : Progress) → first + interp_written names between ≤ middle + interp_written names old
      → move_gives names step (inside + ((middle + interp_written names old) - (first + interp_written names between))) between [] ≡ run
      → ((n : ℕ) → IsWithin (n + interp_written names between) middle last new (move_gives names step n between []))
      → IsWithin (inside + interp_written names old) first last new run
  moved_within step old between new inside first middle last run counted is h =
      within_on old between new inside first middle last (move_gives names step (inside + ((middle + interp_written names old) - (first + interp_written names between))) between []) run counted is
      (h (inside + ((middle + interp_written names old) - (first + interp_written names between))))

  -- a script that begins at its outset
  pub outset_within : (work : Work) (task : Task) (old new : Interp) (between : Settling) (budget inside first last : ℕ) → interp_state (record old { settling = between }) ≡ outset (interp_state old)
      → between.inner ≡ old.settling.inner → between.questions ≡ old.settling.questions
      → IsWithin (inside + interp_written names (record old { settling = between })) first last new
      (task_end names old task (runs names old.blueprint.value old.moment work (at_global (interp_state (record old { settling = between }))) (account_of budget between.questions inside) []))
      → IsWithin (inside + interp_written names old) first last new
      (task_end names old task (runs names old.blueprint.value old.moment work (outset (interp_state old)) (account_of budget old.settling.questions inside) []))
  outset_within work task old new between budget inside first last state inner questions h =
      subst (λ (n : ℕ). IsWithin (inside + n) first last new (task_end names old task (runs names old.blueprint.value old.moment work (outset (interp_state old)) (account_of budget old.settling.questions inside) [])))
      (outset_written names old between state inner)
      (subst (IsWithin (inside + interp_written names (record old { settling = between })) first last new)
      (ap (λ (s : State HostState). task_end names old task (runs names old.blueprint.value old.moment work (at_global s) (account_of budget between.questions inside) [])) state
      ∙ ap (λ (n : ℕ). task_end names old task (runs names old.blueprint.value old.moment work (outset (interp_state old)) (account_of budget n inside) [])) questions) h)

  -- a definition run
  pub define_within : (old new : Interp) (question : Question) (defining : DefineRun) (inside first last : ℕ) (answers : List Answer) → old.settling.inner ≡ None
      → last + Writes (interp_state old).made ≡ first + Writes (interp_state new).made
      → Writes (interp_state new).made ≤ defined_own (define_at names old.blueprint.value old.moment question old.settling.run defining defining.value answers)
      → IsWithin (inside + interp_written names old) first last new (asking_gives names question (Define defining) inside old answers)
  define_within old new question defining inside first last answers none counted most =
      let was : inner_written names old.blueprint.value old.settling.inner ≡ 0 = ap (λ (i : Option InnerRun). inner_written names old.blueprint.value i) none in
      defined_most new (define_at names old.blueprint.value old.moment question old.settling.run defining defining.value answers) inside (inside + interp_written names old) first last most (omega (arith, was, counted, most))

  -- ---- what goes out

  within_is : (question : Question) (i : Interp) (inside : ℕ) (inner : Option InnerRun) → within_of names question i inside inner ≡ inside + inner_written names i.blueprint.value inner
  within_is question i inside None = omega arith
  within_is question i inside (Some inner) = refl

  scripts_ask : (question : Question) (i : Interp) (inside : ℕ) → goes_to names (stops.Asks question) inside i [] ≡ asks question (interp_state i) (inside + inner_written names i.blueprint.value i.settling.inner)
  scripts_ask question i inside = script_asks names question i inside ∙ ap (λ (n : ℕ). asks question (interp_state i) n) (within_is question i inside i.settling.inner)

  none_inside : (question : Question) (i : Interp) (inside : ℕ) → i.settling.inner ≡ None → asks question (interp_state i) inside ≡ asks question (interp_state i) (inside + inner_written names i.blueprint.value i.settling.inner)
  none_inside question i inside none =
      let was : inner_written names i.blueprint.value i.settling.inner ≡ 0 = ap (λ (n : Option InnerRun). inner_written names i.blueprint.value n) none in
      let same : inside ≡ inside + inner_written names i.blueprint.value i.settling.inner = omega (arith, was) in
      ap (λ (n : ℕ). asks question (interp_state i) n) same

  asked_at : (question : Question) (i : Interp) (inside : ℕ) (task : Task) → TaskAsks task i.settling
      → asking_gives names question task inside i [] ≡ asks question (interp_state i) (inside + inner_written names i.blueprint.value i.settling.inner)
  asked_at question i inside (PageAsked path budget) at = none_inside question i inside at.1
  asked_at question i inside (Define defining) at =
      ap (λ (x : Defined). defined_end inside x) (define_asks names question i.blueprint.value i.moment i.settling.run defining defining.value) ∙ none_inside question i inside at.1
  asked_at question i inside New at = scripts_ask question i inside
  asked_at question i inside (Preauth next) at = scripts_ask question i inside
  asked_at question i inside Authorise at = scripts_ask question i inside
  asked_at question i inside (Postauth next) at = scripts_ask question i inside
  asked_at question i inside Procedure at = scripts_ask question i inside
  asked_at question i inside Page at = scripts_ask question i inside
  asked_at question i inside (Writing ending) at = scripts_ask question i inside
  asked_at question i inside (Trace next ending) at = scripts_ask question i inside
  asked_at question i inside (Cleanup next ending) at = scripts_ask question i inside
  asked_at question i inside Script at = scripts_ask question i inside
  asked_at question i inside Over at = scripts_ask question i inside

  -- what was written where it stands is what stands in its tables
  record StandsFor (run : Progress) (inside : ℕ) (i : Interp) : Type 0 where
    own : own_written run ≡ Writes (interp_state i).made
    all : all_written run ≡ inside + interp_written names i

  without_inner : (run : Progress) (inside : ℕ) (i : Interp) → i.settling.inner ≡ None → own_written run ≡ Writes (interp_state i).made → all_written run ≡ Writes (interp_state i).made + inside → StandsFor run inside i
  without_inner run inside i none own all =
      let was : inner_written names i.blueprint.value i.settling.inner ≡ 0 = ap (λ (n : Option InnerRun). inner_written names i.blueprint.value n) none in
      record { own = own; all = omega (arith, was, all) }

  stands_for : (next : Next) (i : Interp) (inside : ℕ) → GoesOut next i → StandsFor (gives names next inside i []) inside i
  stands_for (Asks question) i inside out =
      let is = asked_at question i inside i.task out in
      let all = ap all_written is in
      record { own = ap own_written is; all = omega (arith, all) }
  stands_for (Write response) i inside out = without_inner _ inside i out.0 refl refl
  stands_for (Ended outcome) i inside out = without_inner _ inside i out.2 refl refl
  stands_for NoMemory i inside out = absurd out

  -- a call that memory sufficed for
  pub out_within : (next : Next) (old new : Interp) (inside first last : ℕ) (run : Progress) → first + interp_written names new ≤ last + interp_written names old → GoesOut next new
      → gives names next (inside + ((last + interp_written names old) - (first + interp_written names new))) new [] ≡ run
      → IsWithin (inside + interp_written names old) first last new run
  out_within next old new inside first last run counted out is =
      let n = inside + ((last + interp_written names old) - (first + interp_written names new)) in
      let s = stands_for next new n out in
      let own : own_written run ≡ Writes (interp_state new).made = sym (ap own_written is) ∙ s.own in
      let all : all_written run ≡ (inside + ((last + interp_written names old) - (first + interp_written names new))) + interp_written names new = sym (ap all_written is) ∙ s.all in
      record { own = omega (arith, own); all = omega (arith, all, counted) }

  -- the same of a run that begins
  pub began_within : (next : Next) (old new : Interp) (first last : ℕ) (run : Progress) → first + interp_written names new ≤ last + interp_written names old → GoesOut next new
      → run ≡ gives names next ((last + interp_written names old) - (first + interp_written names new)) new [] → IsWithin 0 first last new run
  began_within next old new first last run counted out is =
      let s = stands_for next new ((last + interp_written names old) - (first + interp_written names new)) out in
      let own : own_written run ≡ Writes (interp_state new).made = ap own_written is ∙ s.own in
      let all : all_written run ≡ ((last + interp_written names old) - (first + interp_written names new)) + interp_written names new = ap all_written is ∙ s.all in
      record { own = omega (arith, own); all = omega (arith, all, counted) }

  -- or of a definition run
  pub defined_within : (next : Next) (old new : Interp) (first last : ℕ) (run : Progress) → last + Writes old.settling.run.engine.made ≡ first + Writes new.settling.run.engine.made → GoesOut next new
      → run ≡ gives names next 0 new [] → IsWithin 0 first last new run
  defined_within next old new first last run counted out is =
      let s = stands_for next new 0 out in
      let own : own_written run ≡ Writes (interp_state new).made = ap own_written is ∙ s.own in
      let all : all_written run ≡ 0 + interp_written names new = ap all_written is ∙ s.all in
      record { own = omega (arith, own); all = omega (arith, all, counted) }

-- where something goes out, it stands there
stands_out : (next : Next) (i : Interp) → GoesOut next i → StandsAt next i
stands_out (Asks question) i out = out
stands_out (Write response) i out = out
stands_out (Ended outcome) i out = out
stands_out NoMemory i out = tt

pub out_stands : {E : Type 0} (came : Result Next E) (next : Next) (i : Interp) → MatchResult came (λ n. next ≡ n) (λ e. next ≡ NoMemory) → IfOk came (λ n. GoesOut n i) → StandsAt next i
out_stands (Ok n) next i is h = subst (λ (m : Next). StandsAt m i) (sym is) (stands_out n i h)
out_stands (Err e) next i is h = subst (λ (m : Next). StandsAt m i) (sym is) tt
