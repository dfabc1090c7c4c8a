-- The names that have a place.
use Rattle.std.proofs.Common.{◌≡◌, ℕ, Bool, true, false, cond, ◌||◌, ◌++◌, List, [], ◌∷◌, Option, Some, None, length, fold, refl, sym, ap, ◌∙◌, subst, arith}
use Rattle.std.specs.Prelude.{IsTrue}
use Rattle.std.specs.Option.{is_some}
use Rattle.std.specs.List.{list_any}
use Rattle.std.specs.List.Sorted.{IsStrictlySortedBy}
use Rattle.std.specs.Cmp.Lexicographic.{nat_list_cmp_total, nat_list_eq_equiv}
use Rattle.std.specs.Map.{lookup, keys_of}
use Rattle.std.specs.BTreeMap.{insert_entry, is_at}
use Rattle.std.specs.BTreeSet.{BTreeSet}
use Rattle.std.specs.Str.{bytes_eq}
use Rattle.std.proofs.lemmas.Map.Entries.{length-keys_of}
use Rattle.std.proofs.lemmas.Map.Lookups.{btree_set_from_contains, exact_bytes}
use Rattle.std.proofs.lemmas.Slice.Eq.{bytes_eq-Decides}
use Rattle.txt_core.specs.Order.{text_cmp}
use Rattle.natives.specs.Names.{has_name}
use Rattle.cmd_table.specs.declared.command.Cmd.{Cmd}
use Rattle.cmd_table.specs.declared.journal.Row.{Row}
use Rattle.cmd_table.specs.Table.{Table, State, names_of, IsInOrder, command_of, with_command, mark_of, Keeps, back_at}
use Rattle.cmd_table.specs.Places.{has_command, has_place, with_entries, placed}
use Rattle.cmd_table.specs.Slots.{Slots, present, AreInOrder, has_slot, AreFull}
use Rattle.cmd_table.specs.Journal.{back, undone, past_of, AreMore, AreGrown, ArePlaced}
use Rattle.cmd_table.specs.Laws.{PlacesAreInOrder, PlacesAreOfCommands, PlacesGoBack}
use Rattle.cmd_table.proofs.Changes.{same_test, held, found}
use Rattle.cmd_table.proofs.Maps.{lookup_put, putting, nothing_found}
use Rattle.cmd_table.proofs.Orders.{with_in_order, nothing_in_order}
use Rattle.cmd_table.proofs.States.{mark_is_now}
use Rattle.cmd_table.proofs.Taking.{undone_last}

-- ---- truth values

or_false : (b : Bool) → b ≡ (b || false)
or_false true = refl
or_false false = refl

or_again : (a b c : Bool) → ((a || b) || c) ≡ (a || (b || c))
or_again true b c = refl
or_again false b c = refl

-- ---- the names of all tables

entry_step : (b : Bool) (v : Cmd) (first rest : Option Cmd) → (is_some (cond b (Some v) first) || is_some rest) ≡ (is_some first || is_some (cond b (Some v) rest))
entry_step true v None rest = refl
entry_step true v (Some cmd) rest = refl
entry_step false v first rest = refl

-- a name has a command in either, where the entries of one table are put into another
entries_have : (name : List ℕ) (t all : Table) → has_command (with_entries all t) name ≡ (has_command all name || has_command t name)
unfolding command_of
entries_have name [] all = or_false (has_command all name)
entries_have name (e ∷ es) all =
    entries_have name es (with_command all e.0 e.1)
    ∙ (ap (λ (o : Option Cmd). is_some o || has_command es name) (putting all e.0 name e.1)
    ∙ (ap (λ (b : Bool). is_some (cond b (Some e.1) (command_of all name)) || has_command es name) (nat_list_eq_equiv.symm e.0 name)
    ∙ entry_step (bytes_eq name e.0) e.1 (command_of all name) (command_of es name)))

-- and in any of several
tables_have : (name : List ℕ) (ts : List Table) (all : Table) → has_command (fold with_entries all ts) name ≡ (has_command all name || list_any (λ t. has_command t name) ts)
tables_have name [] all = or_false (has_command all name)
tables_have name (t ∷ ts) all =
    tables_have name ts (with_entries all t)
    ∙ (ap (λ (b : Bool). b || list_any (λ t. has_command t name) ts) (entries_have name t all)
    ∙ or_again (has_command all name) (has_command t name) (list_any (λ t. has_command t name) ts))

-- all tables of a state, put together
abbrev all_of : State → Table
all_of state = fold with_entries [] (state.past ++ state.table ∷ [])

all_have : (state : State) (name : List ℕ) → has_command (all_of state) name ≡ has_place state name
all_have state name =
    tables_have name (state.past ++ state.table ∷ []) []
    ∙ ap (λ (o : Option Cmd). is_some o || has_place state name) (nothing_found name)

entries_in_order : (t all : Table) → IsInOrder all → IsInOrder (with_entries all t)
entries_in_order [] all s = s
entries_in_order (e ∷ es) all s = entries_in_order es (with_command all e.0 e.1) (with_in_order all e.0 e.1 s)

tables_in_order : (ts : List Table) (all : Table) → IsInOrder all → IsInOrder (fold with_entries all ts)
tables_in_order [] all s = s
tables_in_order (t ∷ ts) all s = tables_in_order ts (with_entries all t) (entries_in_order t all s)

pub places_in_order : PlacesAreInOrder
unfolding placed
places_in_order state = tables_in_order (state.past ++ state.table ∷ []) [] nothing_in_order

or_found : {X : Type 0} (b : Bool) (v : X) (rest : Option X) → (b || is_some rest) ≡ is_some (cond b (Some v) rest)
or_found true v rest = refl
or_found false v rest = refl

-- a key passes a test where a look-up by it finds something
keys_found : {X : Type 0} (test : List ℕ → Bool) (es : List (List ℕ × X)) → list_any test (keys_of es) ≡ is_some (lookup test es)
keys_found test [] = refl
keys_found test (e ∷ es) = ap (λ (b : Bool). test e.0 || b) (keys_found test es) ∙ or_found (test e.0) e.1 (lookup test es)

names_found : (name : List ℕ) (t : Table) → has_name (names_of t) name ≡ has_command t name
unfolding command_of
names_found name [] = refl
names_found name (e ∷ es) =
    ap (λ (b : Bool). b || has_name (names_of es) name) (nat_list_eq_equiv.symm e.0 name)
    ∙ (ap (λ (b : Bool). bytes_eq name e.0 || b) (names_found name es)
    ∙ or_found (bytes_eq name e.0) e.1 (command_of es name))

pub places_of_commands : PlacesAreOfCommands
unfolding placed
places_of_commands state name = names_found name (all_of state) ∙ all_have state name

pub places_go_back : PlacesGoBack
places_go_back old new keeps = ap placed ((keeps (mark_of old) (omega arith)).1 ∙ mark_is_now old)

-- ---- the slots

-- by the order, what a name finds
found_by_order : (name : List ℕ) (t : Table) → is_some (lookup (is_at (text_cmp name)) t) ≡ has_command t name
unfolding command_of
found_by_order name t = ap (λ (test : List ℕ → Bool). is_some (lookup test t)) (same_test name)

same_places : (es : Slots) (state : State) → AreInOrder es → ((name : List ℕ) → has_slot es name ≡ has_place state name) → keys_of es ≡ placed state
unfolding placed
same_places es state s h =
    let ours : BTreeSet (List ℕ) = record { keys = keys_of es } in
    let theirs : BTreeSet (List ℕ) = record { keys = names_of (all_of state) } in
    btree_set_from_contains nat_list_cmp_total ours theirs s (places_in_order state)
    (λ q. keys_found (is_at (text_cmp q)) es ∙ (h q ∙ sym (keys_found (is_at (text_cmp q)) (all_of state) ∙ (found_by_order q (all_of state) ∙ all_have state q))))
    exact_bytes

-- slots that came one after the other: those of the start, and those of commands since
grown_have : (name : List ℕ) (start : Bool) (rows : List Row) (es : Slots) → has_slot (undone rows es) name ≡ (start || has_command (present (undone rows es)) name) → AreGrown rows es
    → has_slot es name ≡ (start || list_any (λ t. has_command t name) (past_of rows es ++ present es ∷ []))
grown_have name start [] es first grown = first ∙ ap (λ (b : Bool). start || b) (or_false (has_command (present es) name))
grown_have name start (row ∷ rows) es first grown =
    let before = has_command (present (undone (row ∷ rows) es)) name in
    let now = has_command (present (undone rows es)) name in
    let next : has_slot (undone rows es) name ≡ ((start || before) || now) = grown.0 name ∙ ap (λ (b : Bool). b || now) first in
    grown_have name (start || before) rows es next grown.1
    ∙ or_again start before (list_any (λ t. has_command t name) (past_of rows es ++ present es ∷ []))

-- there are as many slots as names that have a place
pub slots_counted : (rows : List Row) (es : Slots) (state : State) → AreInOrder es → ArePlaced rows es → record { past = past_of rows es; table = present es } ≡ state → length es ≡ length (placed state)
slots_counted rows es state s placed_so is =
    let here : State = record { past = past_of rows es; table = present es } in
    sym (length-keys_of es)
    ∙ (ap (λ (names : List (List ℕ)). length names) (same_places es here s (λ name. grown_have name false rows es (placed_so.0 name) placed_so.1))
    ∙ ap (λ (s : State). length (placed s)) is)

-- ---- a change

more_at : (same : Bool) (v : Option Cmd) (l : Option (Option Cmd)) → (same ≡ true → IsTrue (is_some v || is_some (held l))) → is_some (cond same (Some v) l) ≡ (is_some l || is_some (held (cond same (Some v) l)))
more_at false v None h = refl
more_at false v (Some w) h = refl
more_at true (Some cmd) None h = refl
more_at true v (Some w) h = refl
more_at true None None h = sym (h refl)

-- what a name has in slots that stand in order
has_held : (name : List ℕ) (es : Slots) → AreInOrder es → has_command (present es) name ≡ is_some (held (lookup (is_at (text_cmp name)) es))
has_held name es s = ap is_some (found name es s)

slot_put : (k name : List ℕ) (v : Option Cmd) (es : Slots) → lookup (is_at (text_cmp name)) (insert_entry text_cmp es k v) ≡ cond (bytes_eq k name) (Some v) (lookup (is_at (text_cmp name)) es)
slot_put k name v es =
    ap (λ (test : List ℕ → Bool). lookup test (insert_entry text_cmp es k v)) (same_test name)
    ∙ (lookup_put k name v es
    ∙ ap (λ (test : List ℕ → Bool). cond (bytes_eq k name) (Some v) (lookup test es)) (sym (same_test name)))

-- a change of the command of a name that has one, or then has one, makes only such a slot
pub one_more_slot : (k : List ℕ) (v : Option Cmd) (es after : Slots) → after ≡ insert_entry text_cmp es k v → AreInOrder es → AreInOrder after → IsTrue (is_some v || has_command (present es) k) → AreMore es after
one_more_slot k v es after is s t some name =
    let now : lookup (is_at (text_cmp name)) after ≡ cond (bytes_eq k name) (Some v) (lookup (is_at (text_cmp name)) es) = ap (lookup (is_at (text_cmp name))) is ∙ slot_put k name v es in
    ap is_some now
    ∙ (more_at (bytes_eq k name) v (lookup (is_at (text_cmp name)) es) (λ same. let e : k ≡ name = (bytes_eq-Decides k name).0 same in subst (λ (n : List ℕ). IsTrue (is_some v || is_some (held (lookup (is_at (text_cmp n)) es)))) e (subst (λ (b : Bool). IsTrue (is_some v || b)) (has_held k es s) some))
    ∙ ap (λ (b : Bool). has_slot es name || b) (sym (has_held name after t ∙ ap (λ (l : Option (Option Cmd)). is_some (held l)) now)))

full_at : (same : Bool) (cmd : Cmd) (l : Option (Option Cmd)) → is_some l ≡ is_some (held l) → is_some (cond same (Some (Some cmd)) l) ≡ is_some (held (cond same (Some (Some cmd)) l))
full_at false cmd l h = h
full_at true cmd l h = refl

-- slots that are full stay so where a command is put
pub still_full : (k : List ℕ) (cmd : Cmd) (es after : Slots) → after ≡ insert_entry text_cmp es k (Some cmd) → AreInOrder es → AreInOrder after → AreFull es → AreFull after
still_full k cmd es after is s t full name =
    let now : lookup (is_at (text_cmp name)) after ≡ cond (bytes_eq k name) (Some (Some cmd)) (lookup (is_at (text_cmp name)) es) = ap (lookup (is_at (text_cmp name))) is ∙ slot_put k name (Some cmd) es in
    ap is_some now
    ∙ (full_at (bytes_eq k name) cmd (lookup (is_at (text_cmp name)) es) (full name ∙ has_held name es s)
    ∙ sym (has_held name after t ∙ ap (λ (l : Option (Option Cmd)). is_some (held l)) now))

-- no slots are full
pub none_full : AreFull []
unfolding command_of present
none_full name = refl

-- ---- the journal

grown_last : (rows : List Row) (row : Row) (es : Slots) → AreGrown rows (back row es) → AreMore (back row es) es → AreGrown (rows ++ row ∷ []) es
grown_last [] row es grown more = (more, tt)
grown_last (first ∷ rows) row es grown more = (subst (λ (s : Slots). AreMore (back first s) s) (sym (undone_last rows row es)) grown.0, grown_last rows row es grown.1 more)

grown_but_last : (rows : List Row) (row : Row) (es : Slots) → AreGrown (rows ++ row ∷ []) es → AreGrown rows (back row es)
grown_but_last [] row es grown = tt
grown_but_last (first ∷ rows) row es grown = (subst (λ (s : Slots). AreMore (back first s) s) (undone_last rows row es) grown.0, grown_but_last rows row es grown.1)

-- a change that is noted
pub placed_noted : (rows : List Row) (row : Row) (es after : Slots) → back row after ≡ es → AreMore es after → ArePlaced rows es → ArePlaced (rows ++ row ∷ []) after
placed_noted rows row es after same more placed_so =
    let here : ArePlaced rows (back row after) = subst (λ (s : Slots). ArePlaced rows s) (sym same) placed_so in
    (subst AreFull (sym (undone_last rows row after)) here.0, grown_last rows row after here.1 (subst (λ (s : Slots). AreMore s after) (sym same) more))

-- and one that is taken back
pub placed_taken : (rows : List Row) (row : Row) (es : Slots) → ArePlaced (rows ++ row ∷ []) es → ArePlaced rows (back row es)
placed_taken rows row es placed_so = (subst AreFull (undone_last rows row es) placed_so.0, grown_but_last rows row es placed_so.1)
