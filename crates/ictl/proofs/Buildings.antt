-- How interpreters are made, and how definitions are put into them.
use Rattle.std.proofs.Common.{◌≡◌, ◌≤◌, ◌<◌, ℕ, ◌+◌, List, [], ◌∷◌, ◌++◌, append_assoc, length, take, drop, get_or, refl, sym, subst, ap, ◌∙◌, arith, Bool, true, false, Option, Some, None}
use Rattle.std.specs.Prelude.{fold, if◌then◌else◌, not}
use Rattle.std.specs.Ordering.{nat_cmp}
use Rattle.std.specs.Cmp.Lexicographic.{slice_cmp}
use Rattle.std.specs.FinMap as map
use Rattle.std.specs.FinMap.{len-entries, len-empty}
use Rattle.std.proofs.lemmas.List.{append-nil, take_all, take-append-le, drop_more}
use Rattle.std.proofs.lemmas.List.Sums.{sum_by-cons}
use Rattle.cmd_table.specs.declared.definition.Def.{Def}
use Rattle.cmd_table.specs.declared.definition.Def.TheVariants.{Proc, Rename, Route, Filter, Cleanup, Set}
use Rattle.cmd_table.specs.Table.{Table, State as TableState, mark_of, Keeps}
use Rattle.cmd_table.specs.Commands.{defined, fits, writes, writes_at, Writes}
use Rattle.tcl_frame.specs.Names.{named, is_element}
use Rattle.tcl_frame.specs.Stack.{Stack, Kept}
use Rattle.tcl_frame.specs.Frames.{fresh}
use Rattle.tcl_frame.specs.declared.frame.Frame.{Frame}
use Rattle.tcl_frame.specs.Base.{IsAtBase, at_base, base_of, as_variables, with_scalars}
use Rattle.tcl_frame.specs.Variables.{Table as Variables}
use Rattle.blueprint.specs.States.{misfit_from, first_misfit}
use Rattle.server_host.specs.Hosts.{HostState}
use Rattle.tcl_eval.specs.State.{State}
use Rattle.tcl_eval.specs.Engine.{state_of, IsIdle, IsKeepable, kept_by}
use Rattle.tcl_eval.specs.declared.engine.Engine.{Engine}
use Rattle.ictl.specs.Fresh.{keeps_in, keeps_of, writes_in}
use Rattle.ictl.proofs.Resets.{same_state}
use Rattle.ictl.proofs.Updates.{keeps_on, front_within, fits_first}

-- ---- definitions that apply

misfit_step : (place other : ℕ) (table : Table) (def : Def) (defs : List Def) (t : Bool)
    → (misfit_from (place + 1) (defined table def) defs ≡ None → misfit_from (other + 1) (defined table def) defs ≡ None)
    → (if t then misfit_from (place + 1) (defined table def) defs else Some place) ≡ None
    → (if t then misfit_from (other + 1) (defined table def) defs else Some other) ≡ None
misfit_step place other table def defs true go fit = go fit
misfit_step place other table def defs false go fit = absurd (let never : Some place ≡ None = fit in cc)

-- that all apply doesn't depend on where the places begin
misfit_at : (place other : ℕ) (table : Table) (defs : List Def) → misfit_from place table defs ≡ None → misfit_from other table defs ≡ None
misfit_at place other table [] fit = refl
misfit_at place other table (def ∷ defs) fit = misfit_step place other table def defs (fits table def) (misfit_at (place + 1) (other + 1) (defined table def) defs) fit

misfit_left : (place : ℕ) (left : Option ℕ) (t : Bool) → (if t then left else Some place) ≡ None → left ≡ None
misfit_left place left true fit = fit
misfit_left place left false fit = absurd (let never : Some place ≡ None = fit in cc)

-- the definitions behind the first one apply behind it
misfit_rest : (table : Table) (def : Def) (defs : List Def) → first_misfit table (def ∷ defs) ≡ None → first_misfit (defined table def) defs ≡ None
misfit_rest table def defs fit = misfit_at 1 0 (defined table def) defs (misfit_left 0 (misfit_from 1 (defined table def) defs) (fits table def) fit)

-- what fits may be kept, of variables that are at their base
pub keepable : (def : Def) (frames : Stack) → IsAtBase frames → IsKeepable def frames
keepable (Set name value) frames base = base
keepable (Proc name params body) frames base = tt
keepable (Rename old new) frames base = tt
keepable (Route method url inherit words) frames base = tt
keepable (Filter when method pattern words) frames base = tt
keepable (Cleanup script) frames base = tt

-- ---- base scalars

-- variables that are at their base
pub based : (frames : Stack) → IsAtBase frames → frames ≡ at_base frames.keeps
based frames base =
    ap (λ (g : Variables). let s : Stack = record frames { global = g } in s) base.0
    ∙ ap (λ (a : List Frame). let s : Stack = record frames { global = as_variables (base_of frames.keeps); above = a } in s) base.1

no_items : {A : Type 0} (list : List A) → length list ≡ 0 → list ≡ []
no_items [] none = refl
no_items (item ∷ list) none = absurd (omega arith)

-- new variables are at their base
pub fresh_based : IsAtBase fresh
fresh_based = (sym (ap (λ (scalars : List (List ℕ × List ℕ)). with_scalars scalars map.empty) none_kept), refl)
  where
    none_kept : map.entries (map.empty {X = List ℕ} {R = slice_cmp nat_cmp}) ≡ []
    none_kept = no_items _ (sym (len-entries map.empty) ∙ len-empty (slice_cmp nat_cmp) (List ℕ))

-- one that keeps nothing leaves them
pub kept_none : (frames : Stack) → IsAtBase frames → frames ≡ at_base (frames.keeps ++ [])
kept_none frames base = based frames base ∙ ap at_base (sym (append-nil frames.keeps))

kept_set : (frames : Stack) (name value : List ℕ) (t : Bool) → not t ≡ true → at_base (frames.keeps ++ (name, value) ∷ []) ≡ at_base (frames.keeps ++ (if t then [] else (name, value) ∷ []))
kept_set frames name value false whole = refl
kept_set frames name value true whole = absurd (let never : false ≡ true = whole in cc)

kept_one : (def : Def) (table : Table) (frames : Stack) → fits table def ≡ true → IsAtBase frames → kept_by def frames ≡ at_base (frames.keeps ++ keeps_in def)
kept_one (Set name value) table frames fit base = kept_set frames name value (is_element (named name)) fit
kept_one (Proc name params body) table frames fit base = kept_none frames base
kept_one (Rename old new) table frames fit base = kept_none frames base
kept_one (Route method url inherit words) table frames fit base = kept_none frames base
kept_one (Filter when method pattern words) table frames fit base = kept_none frames base
kept_one (Cleanup script) table frames fit base = kept_none frames base

-- ---- definitions that are put into an engine

-- what was put in so far, with what is left, is all
pub record Defining (first now : Engine HostState) (all left : List Def) (before after : ℕ) : Type 0 where
  pub table : fold defined now.table.table left ≡ fold defined first.table.table all
  pub keeps : now.frames.keeps ++ keeps_of left ≡ first.frames.keeps ++ keeps_of all
  pub applies : first_misfit now.table.table left ≡ None
  pub steps : after + Writes left ≡ before + Writes all
  pub marks : after + mark_of first.table ≡ before + mark_of now.table
  pub kept : Keeps first.table now.table
  pub idle : IsIdle now
  pub base : IsAtBase now.frames
  pub front : take (length first.frames.keeps) now.frames.keeps ≡ first.frames.keeps
  pub host : now.host ≡ first.host
  pub made : now.made ≡ first.made

pub defines_none : (first : Engine HostState) (all : List Def) (before : ℕ) → first_misfit first.table.table all ≡ None → IsIdle first → IsAtBase first.frames → Defining first first all all before before
defines_none first all before applies idle base = record {
  table = refl;
  keeps = refl;
  applies = applies;
  steps = refl;
  marks = refl;
  kept = λ mark le. (le, refl);
  idle = idle;
  base = base;
  front = take_all (length first.frames.keeps) first.frames.keeps (omega arith);
  host = refl;
  made = refl;
}

-- the front of a list that grew
front_more : (count : ℕ) (first old more : List Kept) → take (length first) old ≡ first → take (length first) (old ++ more) ≡ first
front_more count first old more is = take-append-le (length first) old more (front_within (length first) old (ap length is)) ∙ is

pub defines_one : (first old new : Engine HostState) (all rest : List Def) (def : Def) (before middle after : ℕ) → Defining first old all (def ∷ rest) before middle
    → state_of new ≡ (let s : State HostState = record (state_of old) { commands = defined old.table.table def; frames = kept_by def old.frames } in s)
    → after ≡ middle + writes def → Keeps old.table new.table → after + mark_of old.table ≡ middle + mark_of new.table → IsIdle new
    → Defining first new all rest before after
defines_one first old new all rest def before middle after so state wrote keeps marks idle =
    let fit : fits old.table.table def ≡ true = fits_first old.table.table def rest so.applies in
    let commands : new.table.table ≡ defined old.table.table def = ap (λ (s : State HostState). s.commands) state in
    let frames : new.frames ≡ at_base (old.frames.keeps ++ keeps_in def) = ap (λ (s : State HostState). s.frames) state ∙ kept_one def old.table.table old.frames fit so.base in
    let all_writes : Writes (def ∷ rest) ≡ writes def + Writes rest = sum_by-cons writes def rest in
    let so_steps : middle + Writes (def ∷ rest) ≡ before + Writes all = so.steps in
    let so_marks : middle + mark_of first.table ≡ before + mark_of old.table = so.marks in
    record {
      table = ap (λ (t : Table). fold defined t rest) commands ∙ so.table;
      keeps = ap (λ (f : Stack). f.keeps ++ keeps_of rest) frames ∙ append_assoc old.frames.keeps (keeps_in def) (keeps_of rest) ∙ so.keeps;
      applies = subst (λ (t : Table). first_misfit t rest ≡ None) (sym commands) (misfit_rest old.table.table def rest so.applies);
      steps = omega (arith, all_writes, wrote, so_steps);
      marks = omega (arith, marks, so_marks);
      kept = keeps_on first.table old.table new.table so.kept keeps;
      idle = idle;
      base = subst IsAtBase (sym frames) (refl, refl);
      front =
          ap (λ (f : Stack). take (length first.frames.keeps) f.keeps) frames
          ∙ front_more (length first.frames.keeps) first.frames.keeps old.frames.keeps (keeps_in def) so.front;
      host = ap (λ (s : State HostState). s.host) state ∙ so.host;
      made = ap (λ (s : State HostState). s.made) state ∙ so.made;
    }

-- where memory wants, nothing more was put in
pub defines_same : (first old new : Engine HostState) (all left : List Def) (before middle after : ℕ) → Defining first old all left before middle
    → state_of new ≡ state_of old → after ≡ middle → Keeps old.table new.table → after + mark_of old.table ≡ middle + mark_of new.table → IsIdle new
    → Defining first new all left before after
defines_same first old new all left before middle after so state wrote keeps marks idle =
    let commands : new.table.table ≡ old.table.table = ap (λ (s : State HostState). s.commands) state in
    let frames : new.frames ≡ old.frames = ap (λ (s : State HostState). s.frames) state in
    let so_steps : middle + Writes left ≡ before + Writes all = so.steps in
    let so_marks : middle + mark_of first.table ≡ before + mark_of old.table = so.marks in
    record {
      table = ap (λ (t : Table). fold defined t left) commands ∙ so.table;
      keeps = ap (λ (f : Stack). f.keeps ++ keeps_of left) frames ∙ so.keeps;
      applies = subst (λ (t : Table). first_misfit t left ≡ None) (sym commands) so.applies;
      steps = omega (arith, wrote, so_steps);
      marks = omega (arith, marks, so_marks);
      kept = keeps_on first.table old.table new.table so.kept keeps;
      idle = idle;
      base = subst IsAtBase (sym frames) so.base;
      front = ap (λ (f : Stack). take (length first.frames.keeps) f.keeps) frames ∙ so.front;
      host = ap (λ (s : State HostState). s.host) state ∙ so.host;
      made = ap (λ (s : State HostState). s.made) state ∙ so.made;
    }

-- where nothing is left
pub defines_all : (first now : Engine HostState) (all left : List Def) (before after : ℕ) → Defining first now all left before after → left ≡ [] → Defining first now all [] before after
defines_all first now all left before after so none = subst (λ (l : List Def). Defining first now all l before after) none so

pub all_defined : (first now : Engine HostState) (all : List Def) (before after : ℕ) → Defining first now all [] before after
    → state_of now ≡ (let s : State HostState = record (state_of first) { commands = fold defined first.table.table all; frames = at_base (first.frames.keeps ++ keeps_of all) } in s)
all_defined first now all before after so =
    same_state now.table.table (fold defined first.table.table all) now.frames (at_base (first.frames.keeps ++ keeps_of all)) now.host first.host now.made first.made
    so.table (based now.frames so.base ∙ ap at_base (sym (append-nil now.frames.keeps) ∙ so.keeps)) so.host so.made

-- ---- definitions that are made in a table and as base scalars

-- the same where one that doesn't apply changes nothing
pub record Making (first now : TableState) (frames_first frames : Stack) (all left : List Def) (before after : ℕ) : Type 0 where
  pub table : fold defined now.table left ≡ fold defined first.table all
  pub keeps : frames.keeps ++ keeps_of left ≡ frames_first.keeps ++ keeps_of all
  pub base : IsAtBase frames
  pub steps : after + writes_in now.table left ≡ before + writes_in first.table all
  pub least : before ≤ after

pub makes_one : (first old new : TableState) (frames_first frames_old frames_new : Stack) (all rest : List Def) (def : Def) (before middle after : ℕ)
    → Making first old frames_first frames_old all (def ∷ rest) before middle
    → new.table ≡ defined old.table def → frames_new ≡ at_base (frames_old.keeps ++ keeps_in def) → after ≡ middle + writes_at old.table def
    → Making first new frames_first frames_new all rest before after
makes_one first old new frames_first frames_old frames_new all rest def before middle after so table frames wrote =
    let all_writes : writes_in old.table (def ∷ rest) ≡ writes_at old.table def + writes_in new.table rest = ap (λ (t : Table). writes_at old.table def + writes_in t rest) (sym table) in
    let so_steps : middle + writes_in old.table (def ∷ rest) ≡ before + writes_in first.table all = so.steps in
    let so_least : before ≤ middle = so.least in
    record {
      table = ap (λ (t : Table). fold defined t rest) table ∙ so.table;
      keeps = ap (λ (f : Stack). f.keeps ++ keeps_of rest) frames ∙ append_assoc frames_old.keeps (keeps_in def) (keeps_of rest) ∙ so.keeps;
      base = subst IsAtBase (sym frames) (refl, refl);
      steps = omega (arith, all_writes, so_steps, wrote);
      least = omega (arith, so_least, wrote);
    }

-- at most so many steps, where one definition more was made in the table alone
pub makes_most : (first old new : TableState) (frames_first frames_old : Stack) (all rest : List Def) (def : Def) (before middle after : ℕ)
    → Making first old frames_first frames_old all (def ∷ rest) before middle → after ≡ middle + writes_at old.table def
    → (before ≤ after) × (after ≤ before + writes_in first.table all)
makes_most first old new frames_first frames_old all rest def before middle after so wrote =
    let all_writes : writes_in old.table (def ∷ rest) ≡ writes_at old.table def + writes_in (defined old.table def) rest = refl in
    let so_steps : middle + writes_in old.table (def ∷ rest) ≡ before + writes_in first.table all = so.steps in
    let so_least : before ≤ middle = so.least in
    (omega (arith, so_least, wrote), omega (arith, all_writes, so_steps, wrote))

pub all_made : (first now : TableState) (frames_first frames : Stack) (all left : List Def) (before after : ℕ) → Making first now frames_first frames all left before after → left ≡ []
    → (now.table ≡ fold defined first.table all) × (frames ≡ at_base (frames_first.keeps ++ keeps_of all)) × (after ≡ before + writes_in first.table all)
all_made first now frames_first frames all left before after so none =
    let end : Making first now frames_first frames all [] before after = subst (λ (l : List Def). Making first now frames_first frames all l before after) none so in
    let end_steps : after + 0 ≡ before + writes_in first.table all = end.steps in
    (end.table, based frames end.base ∙ ap at_base (sym (append-nil frames.keeps) ∙ end.keeps), omega (arith, end_steps))

-- ---- what is left of a list

-- the item at a place, and those behind it
pub here : {A : Type 0} (list : List A) (place : ℕ) (item : A) → place < length list → item ≡ get_or list place item → drop place list ≡ item ∷ drop (place + 1) list
here {A} list place item within is = drop_more list place item within ∙ ap (λ (x : A). x ∷ drop (place + 1) list) (sym is)
