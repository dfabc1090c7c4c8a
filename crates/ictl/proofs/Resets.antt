-- An interpreter as it was newly made, or is again.
use Rattle.std.proofs.Common.{◌≡◌, ℕ, suc, zero, ◌+◌, ◌≤◌, min, List, [], ◌∷◌, ◌++◌, length, take, slice_index_or, refl, sym, subst, ap, ◌∙◌, arith, Bool, Option, Some, None}
use Rattle.std.proofs.lemmas.List.{length-take-le}
use Rattle.cmd_table.specs.declared.definition.Def.{Def}
use Rattle.cmd_table.specs.Table.{Table, State as TableState, command_of, mark_of, table_at, back_at}
use Rattle.cmd_table.specs.Commands.{Commands, Writes}
use Rattle.tcl_frame.specs.Stack.{Stack, Kept}
use Rattle.tcl_frame.specs.Base.{at_base, cleared as cleared_frames}
use Rattle.url_tables.specs.Tables.{IsBuiltOf}
use Rattle.url_tables.specs.declared.routes.Routes.{Routes}
use Rattle.server_host.specs.declared.edition.Edition.{Edition}
use Rattle.server_host.specs.Hosts.{HostState, no_run, cleared}
use Rattle.tcl_eval.specs.State.{State}
use Rattle.tcl_eval.specs.Engine.{state_of, IsIdle, Lasts}
use Rattle.tcl_eval.specs.declared.engine.Engine.{Engine}
use Rattle.ictl.specs.Fresh.{keeps_of, fresh_but_marked}
use Rattle.ictl.specs.Visits.{authoriser, cleanups_of, is_authorised, is_procedure, no_visit}
use Rattle.outside.specs.declared.question.Answer.{Answer}
use Rattle.ictl.specs.Main.{Progress}
use Rattle.ictl.specs.declared.next.Next.{Next}
use Rattle.ictl.specs.Interps.{Stands, Begins, interp_state, spare_of, put_on, restored, HasBlueprint, IsSound, IsFresh, IsNew, Holds, IsSameRun}
use Rattle.ictl.specs.Falls.{IsAsking, IsWriting, TaskAsks}
use Rattle.ictl.specs.declared.visit.Visit.{Visit}
use Rattle.ictl.specs.declared.task.Task.{Task}
use Rattle.ictl.specs.declared.task.Task.TheVariants.{New, Writing}
use Rattle.ictl.specs.declared.ending.Ending.{Ending}
use Rattle.ictl.specs.declared.interp.Interp.{Interp}

-- ---- marks

index_end : (past : List Table) (now : Table) → slice_index_or past (length past) now ≡ now
index_end [] now = refl
index_end (t ∷ past) now = index_end past now

index_back : (past : List Table) (now : Table) (mark : ℕ) → mark ≤ length past → slice_index_or (take mark past) mark (slice_index_or past mark now) ≡ slice_index_or past mark now
index_back [] now zero h = refl
index_back [] now (suc m) h = absurd (omega (arith, h))
index_back (t ∷ past) now zero h = refl
index_back (t ∷ past) now (suc m) h = index_back past now m (omega (arith, h))

-- the table of the last mark is the table as it is now
pub table_now : (table : TableState) → table_at table (mark_of table) ≡ table.table
table_now table = index_end table.past table.table

-- back at a mark, the table of that mark stands
table_back : (table : TableState) (mark : ℕ) → mark ≤ mark_of table → table_at (back_at table mark) mark ≡ table_at table mark
table_back table mark within = index_back table.past table.table mark within

mark_back : (table : TableState) (mark : ℕ) → mark ≤ mark_of table → mark_of (back_at table mark) ≡ mark
mark_back table mark within = length-take-le mark table.past within

-- ---- states

abbrev state_with : Table → Stack → HostState → List Def → State HostState
state_with commands frames host made = record { commands = commands; frames = frames; host = host; made = made }

pub same_state : (c d : Table) (f g : Stack) (h k : HostState) (m n : List Def) → c ≡ d → f ≡ g → h ≡ k → m ≡ n → state_with c f h m ≡ state_with d g k n
same_state c d f g h k m n commands frames host made =
    ap (λ (t : Table). state_with t f h m) commands
    ∙ ap (λ (s : Stack). state_with d s h m) frames
    ∙ ap (λ (o : HostState). state_with d g o m) host
    ∙ ap (λ (l : List Def). state_with d g k l) made

-- the state that an engine has once it was cleared
abbrev pub taken_back : Engine HostState → ℕ → State HostState
taken_back engine mark = record { commands = table_at engine.table mark; frames = cleared_frames engine.frames; host = cleared engine.host; made = [] }

-- ---- the host

put_marked : (spare : Option Edition) (host : HostState) → (put_on spare host).marked ≡ host.marked
put_marked None host = refl
put_marked (Some own) host = refl

-- a host that was cleared is put on the interpreter's own blueprint
put_back_on : (spare : Option Edition) (task : Task) (host was : HostState) (own : Edition) → host ≡ cleared was → HasBlueprint spare task was.blueprint own → put_on spare host ≡ no_run own host.marked
put_back_on None task host was own is has =
    is ∙ ap (λ (b : Edition). no_run b was.marked) has.1 ∙ sym (ap (λ (h : HostState). no_run own h.marked) is)
put_back_on (Some spare) task host was own is has =
    ap (λ (h : HostState). let k : HostState = record h { blueprint = spare } in k) is ∙ ap (λ (b : Edition). no_run b was.marked) has ∙ sym (ap (λ (h : HostState). no_run own h.marked) is)

-- ---- fresh states

-- an interpreter whose engine was taken back, and nothing runs inside
abbrev pub taken : Interp → Engine HostState → Interp
taken old engine = record old { settling = record old.settling { run = record { engine = engine }; inner = None } }

abbrev pub left : Interp → Visit → Interp
left back visit = record back { visit = visit; moment = 0; task = New }

module _ (names : List (List ℕ)) (old : Interp) (engine : Engine HostState) (visit : Visit) where
  again : IsSound names old → state_of engine ≡ taken_back old.settling.run.engine old.mark → engine.table ≡ back_at old.settling.run.engine.table old.mark
      → IsIdle engine → visit ≡ no_visit → IsNew names (left (restored (taken old engine)) visit)
  again sound state table idle none = (soundly, freshly)
    where
      own : Edition
      own = old.blueprint.value

      within : old.mark ≤ mark_of old.settling.run.engine.table
      within = omega (arith, sound.entries)

      made : engine.made ≡ []
      made = ap (λ (s : State HostState). s.made) state

      frames : engine.frames ≡ at_base old.settling.run.engine.frames.keeps
      frames = ap (λ (s : State HostState). s.frames) state

      host : engine.host ≡ cleared old.settling.run.engine.host
      host = ap (λ (s : State HostState). s.host) state

      commands : engine.table.table ≡ Commands names own.defs
      commands = ap (λ (s : State HostState). s.commands) state ∙ sound.commands

      hosted : put_on (spare_of old) engine.host ≡ no_run own engine.host.marked
      hosted = put_back_on (spare_of old) old.task engine.host old.settling.run.engine.host own host sound.blueprint

      soundly : IsSound names (left (restored (taken old engine)) visit)
      soundly = record {
        commands = ap (λ (t : TableState). table_at t old.mark) table ∙ table_back old.settling.run.engine.table old.mark within ∙ sound.commands;
        entries =
            ap mark_of table ∙ mark_back old.settling.run.engine.table old.mark within
            ∙ (let none : Writes engine.made ≡ 0 = ap Writes made in let sum : old.mark ≡ old.mark + Writes engine.made = omega (arith, none) in sum);
        keeps = ap (λ (f : Stack). f.keeps) frames ∙ sound.keeps;
        routes = sound.routes;
        cleanups = sound.cleanups;
        authorises = sound.authorises;
        blueprint = (refl, ap (λ (h : HostState). h.blueprint) hosted);
      }

      freshly : IsFresh names (left (restored (taken old engine)) visit)
      freshly = record {
        state =
            same_state engine.table.table (Commands names own.defs) engine.frames (at_base (keeps_of own.defs)) (put_on (spare_of old) engine.host) (no_run own (put_on (spare_of old) engine.host).marked) engine.made []
            commands (frames ∙ ap at_base sound.keeps) (hosted ∙ sym (ap (λ (m : Bool). no_run own m) (put_marked (spare_of old) engine.host))) made;
        idle = idle;
        inner = refl;
        visit = none;
        moment = refl;
        task = refl;
      }

  -- an interpreter whose engine was taken back to its mark is as newly made
  pub new_again : (mark : ℕ) (back : Interp) → mark ≡ min old.mark (mark_of old.settling.run.engine.table)
      → state_of engine ≡ taken_back old.settling.run.engine mark → engine.table ≡ back_at old.settling.run.engine.table mark
      → IsIdle engine → back ≡ restored (taken old engine) → visit ≡ no_visit → IsSound names old → IsNew names (left back visit)
  new_again mark back least state table idle is none sound =
      subst (λ (b : Interp). IsNew names (left b visit)) (sym is)
      (again sound (subst (λ (n : ℕ). state_of engine ≡ taken_back old.settling.run.engine n) own state) (subst (λ (n : ℕ). engine.table ≡ back_at old.settling.run.engine.table n) own table) idle none)
    where
      own : mark ≡ old.mark
      own = omega (arith, least, sound.entries)

-- the steps of taking back what a run made
pub steps_back : (names : List (List ℕ)) (old : Interp) (mark after before : ℕ) → mark ≡ min old.mark (mark_of old.settling.run.engine.table) → after + mark ≡ before + mark_of old.settling.run.engine.table
    → IsSound names old → after ≡ before + Writes old.settling.run.engine.made
steps_back names old mark after before least is sound = omega (arith, least, is, sound.entries)

pub mark_back_on : (spare : Option Edition) (host was : HostState) → host ≡ cleared was → (put_on spare host).marked ≡ was.marked
mark_back_on spare host was is = put_marked spare host ∙ ap (λ (h : HostState). h.marked) is

-- whether requests are authorised, as it was looked up in a table of the commands of these definitions
pub authorised_in : (names : List (List ℕ)) (defs : List Def) (commands : Table) (name : List ℕ) (found : Bool) → found ≡ is_procedure (command_of commands name) → name ≡ authoriser
    → commands ≡ Commands names defs → found ≡ is_authorised names defs
authorised_in names defs commands name found is named table =
    is ∙ ap (λ (n : List ℕ). is_procedure (command_of commands n)) named ∙ ap (λ (t : Table). is_procedure (command_of t authoriser)) table

-- an interpreter with an engine on its blueprint, in which nothing runs
pub newly_made : (names : List (List ℕ)) (i : Interp) (marked : Bool) → interp_state i ≡ fresh_but_marked names i.blueprint.value marked → IsIdle i.settling.run.engine → i.mark ≡ mark_of i.settling.run.engine.table
    → IsBuiltOf i.routes i.blueprint.value.defs → i.cleanups ≡ cleanups_of i.blueprint.value.defs → i.authorises ≡ is_authorised names i.blueprint.value.defs → spare_of i ≡ None
    → i.settling.inner ≡ None → i.visit ≡ no_visit → i.moment ≡ 0 → i.task ≡ New → IsNew names i
newly_made names i marked state idle mark routes cleanups authorises spare inner visit moment task =
    let made : i.settling.run.engine.made ≡ [] = ap (λ (s : State HostState). s.made) state in
    let written : Writes i.settling.run.engine.made ≡ 0 = ap Writes made in
    let own : i.settling.run.engine.host.blueprint ≡ i.blueprint.value = ap (λ (s : State HostState). s.host.blueprint) state in
    let unmarked : i.settling.run.engine.host.marked ≡ marked = ap (λ (s : State HostState). s.host.marked) state in (
      record {
        commands = ap (λ (n : ℕ). table_at i.settling.run.engine.table n) mark ∙ table_now i.settling.run.engine.table ∙ ap (λ (s : State HostState). s.commands) state;
        entries = omega (arith, mark, written);
        keeps = ap (λ (s : State HostState). s.frames.keeps) state;
        routes = routes;
        cleanups = cleanups;
        authorises = authorises;
        blueprint = subst (λ (s : Option Edition). HasBlueprint s i.task i.settling.run.engine.host.blueprint i.blueprint.value) (sym spare) (task, own);
      },
      record {
        state = state ∙ sym (ap (λ (m : Bool). fresh_but_marked names i.blueprint.value m) unmarked);
        idle = idle;
        inner = inner;
        visit = visit;
        moment = moment;
        task = task;
      },
    )

-- ---- what stays

-- what no run changes keeps an interpreter sound, where its host can be put back
pub sound_held : (names : List (List ℕ)) (new old : Interp) → Holds new old → HasBlueprint (spare_of new) new.task new.settling.run.engine.host.blueprint new.blueprint.value
    → IsSound names old → IsSound names new
sound_held names new old holds has sound =
    let within : old.mark ≤ mark_of old.settling.run.engine.table = omega (arith, sound.entries) in
    let kept = holds.engine.0 old.mark within in
    let table : table_at new.settling.run.engine.table old.mark ≡ table_at old.settling.run.engine.table old.mark = ap (λ (t : TableState). t.table) kept.1 in
    record {
      commands =
          ap (λ (n : ℕ). table_at new.settling.run.engine.table n) holds.mark ∙ table ∙ sound.commands
          ∙ sym (ap (λ (b : Edition). Commands names b.defs) holds.blueprint);
      entries = omega (arith, holds.mark, holds.engine.1, sound.entries);
      keeps = holds.engine.2 ∙ sound.keeps ∙ sym (ap (λ (b : Edition). keeps_of b.defs) holds.blueprint);
      routes =
          subst (λ (b : Edition). IsBuiltOf new.routes b.defs) (sym holds.blueprint)
          (subst (λ (r : Routes). IsBuiltOf r old.blueprint.value.defs) (sym holds.routes) sound.routes);
      cleanups = holds.cleanups ∙ sound.cleanups ∙ sym (ap (λ (b : Edition). cleanups_of b.defs) holds.blueprint);
      authorises = holds.authorises ∙ sound.authorises ∙ sym (ap (λ (b : Edition). is_authorised names b.defs) holds.blueprint);
      blueprint = has;
    }

still_has : (spare : Option Edition) (new_task task : Task) (on was own : Edition) → (task ≡ New → ⊥) → HasBlueprint spare task was own → HasBlueprint spare new_task on own
still_has None new_task task on was own other has = absurd (other has.0)
still_has (Some spare) new_task task on was own other has = has

-- in the midst of a run
pub sound_on : (names : List (List ℕ)) (new old : Interp) → (old.task ≡ New → ⊥) → IsSameRun new old → Holds new old → IsSound names old → IsSound names new
sound_on names new old other same holds sound =
    sound_held names new old holds
    (subst (λ (s : Option Edition). HasBlueprint s new.task new.settling.run.engine.host.blueprint new.blueprint.value) (sym same.spare)
    (subst (λ (b : Edition). HasBlueprint (spare_of old) new.task new.settling.run.engine.host.blueprint b) (sym holds.blueprint)
    (still_has (spare_of old) new.task old.task new.settling.run.engine.host.blueprint old.settling.run.engine.host.blueprint old.blueprint.value other sound.blueprint)))
    sound

pub asking_runs : (i : Interp) → IsAsking i → i.task ≡ New → ⊥
asking_runs i asking new = subst (λ (t : Task). TaskAsks t i.settling) new asking

pub writing_runs : (i : Interp) → IsWriting i → i.task ≡ New → ⊥
writing_runs i writing new = let other : Writing writing.1.0 ≡ New = sym writing.1.1 ∙ new in cc

-- where nothing changed
pub holds_same : (new old : Interp) → new ≡ old → Holds new old
holds_same new old is = subst (λ (i : Interp). Holds i old) (sym is)
    (record { engine = (λ mark le. (le, refl), refl, refl); blueprint = refl; mark = refl; routes = refl; cleanups = refl; authorises = refl })

-- ---- starts

-- with a spare blueprint it is as new as before
pub spared_new : (names : List (List ℕ)) (with_spare old : Interp) → with_spare ≡ record old { spare = with_spare.spare } → spare_of with_spare ≡ Some old.blueprint.value → IsNew names old → IsNew names with_spare
spared_new names with_spare old is some new = subst (IsNew names) (sym is) (
  record {
    commands = new.0.commands;
    entries = new.0.entries;
    keeps = new.0.keeps;
    routes = new.0.routes;
    cleanups = new.0.cleanups;
    authorises = new.0.authorises;
    blueprint = subst (λ (s : Option Edition). HasBlueprint s old.task old.settling.run.engine.host.blueprint old.blueprint.value) (sym some) refl;
  },
  record { state = new.1.state; idle = new.1.idle; inner = new.1.inner; visit = new.1.visit; moment = new.1.moment; task = new.1.task },
)

pub holds_from : (new with_spare old : Interp) → with_spare ≡ record old { spare = with_spare.spare } → Holds new with_spare → Holds new old
holds_from new with_spare old is holds = record {
  engine = subst (λ (i : Interp). Lasts new.settling.run.engine i.settling.run.engine) is holds.engine;
  blueprint = holds.blueprint ∙ ap (λ (i : Interp). i.blueprint.value) is;
  mark = holds.mark ∙ ap (λ (i : Interp). i.mark) is;
  routes = holds.routes ∙ ap (λ (i : Interp). i.routes) is;
  cleanups = holds.cleanups ∙ ap (λ (i : Interp). i.cleanups) is;
  authorises = holds.authorises ∙ ap (λ (i : Interp). i.authorises) is;
}

pub sound_from : (names : List (List ℕ)) (new with_spare old : Interp) → with_spare ≡ record old { spare = with_spare.spare } → spare_of with_spare ≡ Some old.blueprint.value → spare_of new ≡ spare_of with_spare
    → Holds new with_spare → IsSound names old → IsSound names new
sound_from names new with_spare old is some spare holds sound =
    sound_held names new old (holds_from new with_spare old is holds)
    (subst (λ (s : Option Edition). HasBlueprint s new.task new.settling.run.engine.host.blueprint new.blueprint.value) (sym (spare ∙ some))
    (sym (holds_from new with_spare old is holds).blueprint))
    sound

-- a run that was begun with a spare blueprint is one on the blueprint itself
pub run_from : (names : List (List ℕ)) (next : Next) (run : Edition → List Answer → Progress) (new with_spare old : Interp) (after before : ℕ) → with_spare ≡ record old { spare = with_spare.spare }
    → Begins names (run with_spare.blueprint.value) next after before new with_spare → Begins names (run old.blueprint.value) next after before new old
run_from names next run new with_spare old after before is stands =
    subst (λ (i : Interp). Begins names (run i.blueprint.value) next after before new i) is stands

pub defined_from : (names : List (List ℕ)) (next : Next) (run : Edition → List Answer → Progress) (new with_spare old : Interp) → with_spare ≡ record old { spare = with_spare.spare }
    → Stands names (run with_spare.blueprint.value) next 0 new [] → Stands names (run old.blueprint.value) next 0 new []
defined_from names next run new with_spare old is stands =
    subst (λ (i : Interp). Stands names (run i.blueprint.value) next 0 new []) is stands
