-- An interpreter that goes to a later epoch.
use Rattle.std.proofs.Common.{◌≡◌, ℕ, ◌+◌, ◌*◌, ◌≤◌, min, List, [], ◌∷◌, ◌++◌, append_assoc, length, take, refl, sym, subst, ap, ◌∙◌, arith, Bool, true, false, Option, Some, None, Result, Ok, Err, OnErr}
use Rattle.std.specs.Prelude.{fold, if◌then◌else◌}
use Rattle.std.proofs.lemmas.List.{take_all, length-take}
use Rattle.std.proofs.lemmas.List.Sums.{fold-append}
use Rattle.cmd_table.specs.declared.definition.Def.{Def}
use Rattle.cmd_table.specs.declared.definition.Def.TheVariants.{Proc, Rename, Route, Filter, Cleanup, Set}
use Rattle.cmd_table.specs.Table.{Table, State as TableState, mark_of, table_at, back_at, Keeps}
use Rattle.cmd_table.specs.Commands.{Commands, built, defined, fits, Applies, Writes}
use Rattle.tcl_frame.specs.Names.{named, is_element}
use Rattle.tcl_frame.specs.Stack.{Stack, Kept}
use Rattle.tcl_frame.specs.Base.{IsAtBase, at_base, cleared as cleared_frames}
use Rattle.blueprint.specs.States.{misfit_from, first_misfit}
use Rattle.server_host.specs.declared.edition.Edition.{Edition}
use Rattle.server_host.specs.Hosts.{HostState, no_run, cleared, added}
use Rattle.tcl_eval.specs.State.{State}
use Rattle.tcl_eval.specs.Engine.{state_of, at_global, IsIdle}
use Rattle.tcl_eval.specs.declared.engine.Engine.{Engine}
use Rattle.ictl.specs.Fresh.{keeps_in, keeps_of, updated, state_on, fresh_but_marked}
use Rattle.ictl.specs.Visits.{cleanup_in, cleanups_of}
use Rattle.ictl.specs.Interps.{interp_state, spare_of, HasBlueprint, IsSound, IsFresh, IsNew}
use Rattle.ictl.specs.declared.interp.Interp.{Interp}
use Rattle.ictl.proofs.Resets.{table_now, same_state}

-- what holds, holds where memory wants
pub on_err : {A E : Type 0} (r : Result A E) (P : Type 0) → P → OnErr r P
on_err (Ok a) P h = tt
on_err (Err e) P h = h

-- ---- lists of definitions

pub keeps_append : (defs more : List Def) → keeps_of (defs ++ more) ≡ keeps_of defs ++ keeps_of more
keeps_append [] more = refl
keeps_append (def ∷ defs) more = ap (λ (l : List Kept). keeps_in def ++ l) (keeps_append defs more) ∙ sym (append_assoc (keeps_in def) (keeps_of defs) (keeps_of more))

commands_append : (names : List (List ℕ)) (defs more : List Def) → Commands names (defs ++ more) ≡ fold defined (Commands names defs) more
commands_append names defs more = fold-append defined (built names) defs more

-- ---- tables

back_whole : (table : TableState) → back_at table (mark_of table) ≡ table
back_whole table =
    ap (λ (p : List Table). let s : TableState = record { past = p; table = table_at table (mark_of table) } in s) (take_all (length table.past) table.past (omega arith))
    ∙ ap (λ (t : Table). let s : TableState = record { past = table.past; table = t } in s) (table_now table)

-- back at the mark from which definitions were put in, the table is as it was
pub table_restored : (old between : TableState) (mark : ℕ) → mark ≡ mark_of old → Keeps old between → back_at between mark ≡ old
table_restored old between mark is kept =
    ap (λ (n : ℕ). back_at between n) is ∙ (kept (mark_of old) (omega arith)).1 ∙ back_whole old

-- each mark stays in two steps
pub keeps_on : (first between last : TableState) → Keeps first between → Keeps between last → Keeps first last
keeps_on first between last earlier later = λ mark le. let x = earlier mark le in let y = later mark x.0 in (y.0, y.1 ∙ x.1)

-- what a front is long is within the whole
pub front_within : (count : ℕ) (keeps : List Kept) → length (take count keeps) ≡ count → count ≤ length keeps
front_within count keeps is = let whole : length (take count keeps) ≡ min count (length keeps) = length-take count keeps in omega (arith, whole, is)

-- ---- definitions that are refused

-- the variables of a new interpreter are at their base
pub new_based : (names : List (List ℕ)) (i : Interp) → IsNew names i → IsAtBase i.settling.run.engine.frames
new_based names i new = subst IsAtBase (sym (ap (λ (s : State HostState). s.frames) new.1.state)) (refl, refl)

-- and still are, where what is suspended was dropped
pub abandoned_based : (names : List (List ℕ)) (i : Interp) (engine : Engine HostState) → state_of engine ≡ at_global (interp_state i) → IsNew names i → IsAtBase engine.frames
abandoned_based names i engine is new =
    subst IsAtBase (sym (ap (λ (s : State HostState). s.frames) is)) (subst (λ (f : Stack). IsAtBase (let g : Stack = record f { above = [] } in g)) (sym (ap (λ (s : State HostState). s.frames) new.1.state)) (refl, refl))

-- further definitions behind those that stand
pub defined_on : (engine : Engine HostState) (state : State HostState) (defs : List Def) → state_of engine ≡ at_global state
    → (let s : State HostState = record (state_of engine) { commands = fold defined engine.table.table defs; frames = at_base (engine.frames.keeps ++ keeps_of defs) } in s) ≡ updated defs state
defined_on engine state defs is =
    ap (λ (x : State HostState). let s : State HostState = record x { commands = fold defined x.commands defs; frames = at_base (x.frames.keeps ++ keeps_of defs) } in s) is

-- the mark of a new interpreter is that of its table as it is
pub new_mark : (names : List (List ℕ)) (i : Interp) → IsNew names i → i.mark ≡ mark_of i.settling.run.engine.table
new_mark names i new =
    let none : Writes i.settling.run.engine.made ≡ 0 = ap Writes (ap (λ (s : State HostState). s.made) new.1.state) in
    omega (arith, none, new.0.entries)

-- what is left of a state that was fresh, where what was defined was taken back
pub states_back : (names : List (List ℕ)) (i : Interp) (between : TableState) (frames : Stack) (host : HostState) (made : List Def) (mark kept : ℕ) (last : State HostState)
    → IsNew names i → mark ≡ i.mark → kept ≡ length i.settling.run.engine.frames.keeps
    → Keeps i.settling.run.engine.table between → take (length i.settling.run.engine.frames.keeps) frames.keeps ≡ i.settling.run.engine.frames.keeps
    → host ≡ i.settling.run.engine.host
    → last ≡ record { commands = table_at between mark; frames = cleared_frames (at_base (take kept frames.keeps)); host = cleared host; made = [] }
    → last ≡ interp_state i
states_back names i between frames host made mark kept last new mark_is kept_is table front host_is is =
    is
    ∙ same_state (table_at between mark) engine.table.table (at_base (take kept frames.keeps)) engine.frames (cleared host) engine.host [] engine.made
    (ap (λ (t : TableState). t.table) (table_restored engine.table between mark (mark_is ∙ marked) table))
    (ap (λ (n : ℕ). at_base (take n frames.keeps)) kept_is ∙ ap at_base front ∙ sym at_keeps)
    (ap cleared host_is ∙ sym hosted)
    (sym none)
  where
    engine : Engine HostState
    engine = i.settling.run.engine

    none : i.settling.run.engine.made ≡ []
    none = ap (λ (s : State HostState). s.made) new.1.state

    marked : i.mark ≡ mark_of i.settling.run.engine.table
    marked = let zero_writes : Writes i.settling.run.engine.made ≡ 0 = ap Writes none in omega (arith, zero_writes, new.0.entries)

    based : i.settling.run.engine.frames ≡ at_base (keeps_of i.blueprint.value.defs)
    based = ap (λ (s : State HostState). s.frames) new.1.state

    at_keeps : i.settling.run.engine.frames ≡ at_base i.settling.run.engine.frames.keeps
    at_keeps = based ∙ sym (ap (λ (f : Stack). at_base f.keeps) based)

    hosted : i.settling.run.engine.host ≡ cleared i.settling.run.engine.host
    hosted =
        let now : i.settling.run.engine.host ≡ no_run i.blueprint.value i.settling.run.engine.host.marked = ap (λ (s : State HostState). s.host) new.1.state in
        now ∙ sym (ap (λ (b : Edition). no_run b i.settling.run.engine.host.marked) (ap (λ (h : HostState). h.blueprint) now))

-- an interpreter in which nothing is otherwise is as new
pub still_new : (names : List (List ℕ)) (new old : Interp) → interp_state new ≡ interp_state old → new.settling.run.engine.table ≡ old.settling.run.engine.table
    → new ≡ record old { settling = new.settling } → IsIdle new.settling.run.engine → new.settling.inner ≡ old.settling.inner → IsNew names old → IsNew names new
still_new names new old state table is idle inner fresh =
    let made : new.settling.run.engine.made ≡ old.settling.run.engine.made = ap (λ (s : State HostState). s.made) state in
    let wrote : Writes new.settling.run.engine.made ≡ Writes old.settling.run.engine.made = ap Writes made in
    let marks : mark_of new.settling.run.engine.table ≡ mark_of old.settling.run.engine.table = ap mark_of table in
    let own : new.blueprint.value ≡ old.blueprint.value = ap (λ (i : Interp). i.blueprint.value) is in
    let mark : new.mark ≡ old.mark = ap (λ (i : Interp). i.mark) is in
    let on : new.settling.run.engine.host.blueprint ≡ old.settling.run.engine.host.blueprint = ap (λ (s : State HostState). s.host.blueprint) state in
    subst (λ (i : Interp). IsNew names i) (sym is) (
      record {
        commands = ap (λ (t : TableState). table_at t old.mark) table ∙ fresh.0.commands;
        entries = omega (arith, wrote, marks, fresh.0.entries);
        keeps = ap (λ (s : State HostState). s.frames.keeps) state ∙ fresh.0.keeps;
        routes = fresh.0.routes;
        cleanups = fresh.0.cleanups;
        authorises = fresh.0.authorises;
        blueprint = subst (λ (b : Edition). HasBlueprint (spare_of old) old.task b old.blueprint.value) (sym on) fresh.0.blueprint;
      },
      record {
        state = state ∙ fresh.1.state ∙ sym (ap (λ (s : State HostState). fresh_but_marked names old.blueprint.value s.host.marked) state);
        idle = idle;
        inner = inner ∙ fresh.1.inner;
        visit = fresh.1.visit;
        moment = fresh.1.moment;
        task = fresh.1.task;
      },
    )

-- ---- definitions that are added

-- the state of an interpreter on its blueprint with further definitions
pub updated_state : (names : List (List ℕ)) (old : Interp) (between : State HostState) (later : Edition) (epoch : ℕ) (defs : List Def)
    → IsNew names old → between ≡ updated defs (interp_state old) → later ≡ added old.blueprint.value epoch defs
    → (let s : State HostState = record between { host = record between.host { blueprint = later } } in s) ≡ fresh_but_marked names later old.settling.run.engine.host.marked
updated_state names old between later epoch defs new is added_is =
    ap (λ (s : State HostState). let t : State HostState = record s { host = record s.host { blueprint = later } } in t) is
    ∙ same_state (fold defined old.settling.run.engine.table.table defs) (Commands names later.defs)
    (at_base (old.settling.run.engine.frames.keeps ++ keeps_of defs)) (at_base (keeps_of later.defs))
    (let h : HostState = record old.settling.run.engine.host { blueprint = later } in h) (no_run later old.settling.run.engine.host.marked)
    old.settling.run.engine.made []
    (ap (λ (t : Table). fold defined t defs) (ap (λ (s : State HostState). s.commands) new.1.state)
    ∙ sym (commands_append names old.blueprint.value.defs defs) ∙ sym (ap (λ (b : Edition). Commands names b.defs) added_is))
    (ap (λ (l : List Kept). at_base (l ++ keeps_of defs)) new.0.keeps ∙ ap at_base (sym (keeps_append old.blueprint.value.defs defs)) ∙ sym (ap (λ (b : Edition). at_base (keeps_of b.defs)) added_is))
    (ap (λ (s : State HostState). let h : HostState = record s.host { blueprint = later } in h) new.1.state)
    (ap (λ (s : State HostState). s.made) new.1.state)

-- ---- one definition more

-- a definition that fits applies
pub fits_first : (table : Table) (def : Def) (defs : List Def) → first_misfit table (def ∷ defs) ≡ None → fits table def ≡ true
fits_first table def defs none = by_fit (fits table def) refl
  where
    by_fit : (t : Bool) → fits table def ≡ t → fits table def ≡ true
    by_fit true is = is
    by_fit false is = absurd (let some : Some 0 ≡ None = sym (ap (λ (t : Bool). if t then misfit_from 1 (defined table def) defs else Some 0) is) ∙ none in cc)
