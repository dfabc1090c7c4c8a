-- What a change of the slots does to the table.
use Rattle.std.proofs.Common.{◌≡◌, ℕ, Bool, true, false, cond, ◌||◌, List, [], ◌∷◌, ◌++◌, append_assoc, Option, Some, None, refl, sym, ap, ◌∙◌, subst}
use Rattle.std.specs.declared.cmp.Ordering.{Ordering}
use Rattle.std.specs.declared.cmp.Ordering.TheVariants.{Less, Equal, Greater}
use Rattle.std.specs.Ordering.{is_eq, match_ordering}
use Rattle.std.specs.Cmp.Lexicographic.{nat_list_cmp_total}
use Rattle.std.specs.List.{AllByRecursion}
use Rattle.std.specs.List.Sorted.{IsStrictlySortedBy}
use Rattle.std.specs.Map.{lookup, set_value, remove_entry, keys_of}
use Rattle.std.specs.Option.{is_some, IsSome}
use Rattle.std.specs.BTreeMap.{insert_entry, is_at}
use Rattle.std.specs.Str.{bytes_eq}
use Rattle.std.proofs.lemmas.Map.Keys.{sorted_head, sorted_tail}
use Rattle.std.proofs.lemmas.Map.Lookups.{exact_bytes}
use Rattle.std.proofs.lemmas.Map.Text.{is_eq-slice_cmp}
use Rattle.txt_core.specs.Order.{text_cmp}
use Rattle.cmd_table.specs.declared.command.Cmd.{Cmd}
use Rattle.cmd_table.specs.Table.{Table, names_of, command_of, with_command, without_command}
use Rattle.cmd_table.specs.Slots.{Slots, put_present, present, AreInOrder}

-- a look-up by the order finds the name with the same bytes
pub same_test : (name : List ℕ) → is_at (text_cmp name) ≡ bytes_eq name
same_test name i key = is_eq-slice_cmp name key i

-- a name is below all these
abbrev pub IsBelow : List ℕ → List (List ℕ) → Type 0
IsBelow name names = AllByRecursion (λ other. text_cmp name other ≡ Less) names

-- what is below a name is below all that this one is below
pub below_more : (k n : List ℕ) (names : List (List ℕ)) → text_cmp k n ≡ Less → IsBelow n names → IsBelow k names
below_more k n [] lt b = tt
below_more k n (x ∷ xs) lt b = (nat_list_cmp_total.trans k n x lt b.0, below_more k n xs lt b.1)

-- the same name is below the same
pub below_same : (k n : List ℕ) (names : List (List ℕ)) → text_cmp k n ≡ Equal → IsBelow n names → IsBelow k names
below_same k n names eq b = subst (λ (x : List ℕ). IsBelow x names) (sym (exact_bytes k n eq)) b

absent_step : (k n : List ℕ) (cmd : Option Cmd) (es : Slots) → text_cmp k n ≡ Less → lookup (is_at (text_cmp k)) (present es) ≡ None
    → lookup (is_at (text_cmp k)) (put_present n cmd (present es)) ≡ None
absent_step k n None es lt ih = ih
absent_step k n (Some cmd) es lt ih = rw lt ih

-- a name below all slots has no command
absent_below : (k : List ℕ) (es : Slots) → IsBelow k (keys_of es) → lookup (is_at (text_cmp k)) (present es) ≡ None
unfolding present
absent_below k [] b = refl
absent_below k (e ∷ es) b = absent_step k e.0 e.1 es b.0 (absent_below k es b.1)

-- and no slot of its own
pub none_below : {X : Type 0} (k : List ℕ) (es : List (List ℕ × X)) → IsBelow k (keys_of es) → lookup (is_at (text_cmp k)) es ≡ None
none_below k [] b = refl
none_below k (e ∷ es) b = rw b.0 (none_below k es b.1)

put_below_step : (k n : List ℕ) (v : Cmd) (cmd : Option Cmd) (es : Slots) → text_cmp k n ≡ Less → insert_entry text_cmp (present es) k v ≡ (k, v) ∷ present es
    → insert_entry text_cmp (put_present n cmd (present es)) k v ≡ (k, v) ∷ put_present n cmd (present es)
put_below_step k n v None es lt ih = ih
put_below_step k n v (Some cmd) es lt ih = rw lt refl

-- it goes to the front
put_below : (k : List ℕ) (v : Cmd) (es : Slots) → IsBelow k (keys_of es) → insert_entry text_cmp (present es) k v ≡ (k, v) ∷ present es
unfolding present
put_below k v [] b = refl
put_below k v (e ∷ es) b = put_below_step k e.0 v e.1 es b.0 (put_below k v es b.1)

take_below_step : (k n : List ℕ) (cmd : Option Cmd) (es : Slots) → text_cmp k n ≡ Less → remove_entry (is_at (text_cmp k)) (present es) ≡ present es
    → remove_entry (is_at (text_cmp k)) (put_present n cmd (present es)) ≡ put_present n cmd (present es)
take_below_step k n None es lt ih = ih
take_below_step k n (Some cmd) es lt ih = rw lt (ap (λ (t : Table). (n, cmd) ∷ t) ih)

-- and isn't there to be removed
take_below : (k : List ℕ) (es : Slots) → IsBelow k (keys_of es) → remove_entry (is_at (text_cmp k)) (present es) ≡ present es
unfolding present
take_below k [] b = refl
take_below k (e ∷ es) b = take_below_step k e.0 e.1 es b.0 (take_below k es b.1)

put_step : (k n : List ℕ) (v : Cmd) (cmd : Option Cmd) (es : Slots) (o : Ordering) → text_cmp k n ≡ o → IsBelow n (keys_of es)
    → present (insert_entry text_cmp es k (Some v)) ≡ insert_entry text_cmp (present es) k v
    → present (match_ordering o ((k, Some v) ∷ (n, cmd) ∷ es) ((n, Some v) ∷ es) ((n, cmd) ∷ insert_entry text_cmp es k (Some v))) ≡ insert_entry text_cmp (put_present n cmd (present es)) k v
unfolding present
put_step k n v None es Less at b ih = sym (put_below k v es (below_more k n (keys_of es) at b))
put_step k n v (Some cmd) es Less at b ih = rw at refl
put_step k n v None es Equal at b ih = ap (λ (x : List ℕ). let t : Table = (x, v) ∷ present es in t) (sym (exact_bytes k n at)) ∙ sym (put_below k v es (below_same k n (keys_of es) at b))
put_step k n v (Some cmd) es Equal at b ih = rw at refl
put_step k n v None es Greater at b ih = ih
put_step k n v (Some cmd) es Greater at b ih = rw at (ap (λ (t : Table). let u : Table = (n, cmd) ∷ t in u) ih)

-- a command in the slot of a name is the command of this name
pub present-put : (k : List ℕ) (v : Cmd) (es : Slots) → AreInOrder es → present (insert_entry text_cmp es k (Some v)) ≡ insert_entry text_cmp (present es) k v
unfolding present
present-put k v [] s = refl
present-put k v (e ∷ es) s = put_step k e.0 v e.1 es (text_cmp k e.0) refl (sorted_head text_cmp e.0 (keys_of es) s) (present-put k v es (sorted_tail text_cmp e.0 (keys_of es) s))

take_step : (k n : List ℕ) (cmd : Option Cmd) (es : Slots) (o : Ordering) → text_cmp k n ≡ o → IsBelow n (keys_of es)
    → present (set_value (is_at (text_cmp k)) es None) ≡ remove_entry (is_at (text_cmp k)) (present es)
    → present (cond (is_eq o) ((n, None) ∷ es) ((n, cmd) ∷ set_value (is_at (text_cmp k)) es None)) ≡ remove_entry (is_at (text_cmp k)) (put_present n cmd (present es))
unfolding present
take_step k n None es Less at b ih = ih
take_step k n (Some cmd) es Less at b ih = rw at (ap (λ (t : Table). let u : Table = (n, cmd) ∷ t in u) ih)
take_step k n None es Equal at b ih = sym (take_below k es (below_same k n (keys_of es) at b))
take_step k n (Some cmd) es Equal at b ih = rw at refl
take_step k n None es Greater at b ih = ih
take_step k n (Some cmd) es Greater at b ih = rw at (ap (λ (t : Table). let u : Table = (n, cmd) ∷ t in u) ih)

-- an empty slot is no entry
pub present-take : (k : List ℕ) (es : Slots) → AreInOrder es → present (set_value (is_at (text_cmp k)) es None) ≡ remove_entry (is_at (text_cmp k)) (present es)
unfolding present
present-take k [] s = refl
present-take k (e ∷ es) s = take_step k e.0 e.1 es (text_cmp k e.0) refl (sorted_head text_cmp e.0 (keys_of es) s) (present-take k es (sorted_tail text_cmp e.0 (keys_of es) s))

-- the command in a slot, where it is there and isn't empty
abbrev pub held : Option (Option Cmd) → Option Cmd
held None = None
held (Some cmd) = cmd

find_step : (k n : List ℕ) (cmd : Option Cmd) (es : Slots) (o : Ordering) → text_cmp k n ≡ o → IsBelow n (keys_of es)
    → lookup (is_at (text_cmp k)) (present es) ≡ held (lookup (is_at (text_cmp k)) es)
    → lookup (is_at (text_cmp k)) (put_present n cmd (present es)) ≡ held (cond (is_eq o) (Some cmd) (lookup (is_at (text_cmp k)) es))
find_step k n None es Less at b ih = ih
find_step k n (Some cmd) es Less at b ih = rw at ih
find_step k n None es Equal at b ih = absent_below k es (below_same k n (keys_of es) at b)
find_step k n (Some cmd) es Equal at b ih = rw at refl
find_step k n None es Greater at b ih = ih
find_step k n (Some cmd) es Greater at b ih = rw at ih

-- the command of a name is the one in its slot
pub lookup-present : (k : List ℕ) (es : Slots) → AreInOrder es → lookup (is_at (text_cmp k)) (present es) ≡ held (lookup (is_at (text_cmp k)) es)
unfolding present
lookup-present k [] s = refl
lookup-present k (e ∷ es) s = find_step k e.0 e.1 es (text_cmp k e.0) refl (sorted_head text_cmp e.0 (keys_of es) s) (lookup-present k es (sorted_tail text_cmp e.0 (keys_of es) s))

reserve_step : (k n : List ℕ) (cmd : Option Cmd) (es : Slots) (o : Ordering) → text_cmp k n ≡ o
    → lookup (is_at (text_cmp k)) (put_present n cmd (present es)) ≡ None
    → (lookup (is_at (text_cmp k)) (present es) ≡ None → present (insert_entry text_cmp es k None) ≡ present es)
    → present (match_ordering o ((k, None) ∷ (n, cmd) ∷ es) ((n, None) ∷ es) ((n, cmd) ∷ insert_entry text_cmp es k None)) ≡ put_present n cmd (present es)
unfolding present
reserve_step k n cmd es Less at h ih = refl
reserve_step k n None es Equal at h ih = refl
reserve_step k n (Some cmd) es Equal at h ih = let f = rw at at h in absurd (cc)
reserve_step k n None es Greater at h ih = ih h
reserve_step k n (Some cmd) es Greater at h ih = let f = rw at at h in ap (λ (t : Table). let u : Table = (n, cmd) ∷ t in u) (ih f)

-- an empty slot for a name that has no command changes nothing
pub present-reserve : (k : List ℕ) (es : Slots) → lookup (is_at (text_cmp k)) (present es) ≡ None → present (insert_entry text_cmp es k None) ≡ present es
unfolding present
present-reserve k [] h = refl
present-reserve k (e ∷ es) h = reserve_step k e.0 e.1 es (text_cmp k e.0) refl h (present-reserve k es)

fill_step : (k n : List ℕ) (v cmd : Option Cmd) (es : Slots) (o : Ordering) → text_cmp k n ≡ o → IsBelow n (keys_of es)
    → IsSome (cond (is_eq o) (Some cmd) (lookup (is_at (text_cmp k)) es))
    → (IsSome (lookup (is_at (text_cmp k)) es) → set_value (is_at (text_cmp k)) es v ≡ insert_entry text_cmp es k v)
    → cond (is_eq o) ((n, v) ∷ es) ((n, cmd) ∷ set_value (is_at (text_cmp k)) es v) ≡ match_ordering o ((k, v) ∷ (n, cmd) ∷ es) ((n, v) ∷ es) ((n, cmd) ∷ insert_entry text_cmp es k v)
fill_step k n v cmd es Less at b h ih = let e = none_below k es (below_more k n (keys_of es) at b) in let f = rw e at h in absurd (cc)
fill_step k n v cmd es Equal at b h ih = refl
fill_step k n v cmd es Greater at b h ih = ap (λ (t : Slots). let u : Slots = (n, cmd) ∷ t in u) (ih h)

-- writing to a slot that is there is putting into it
pub set-is-put : (k : List ℕ) (v : Option Cmd) (es : Slots) → AreInOrder es → IsSome (lookup (is_at (text_cmp k)) es) → set_value (is_at (text_cmp k)) es v ≡ insert_entry text_cmp es k v
set-is-put k v [] s h = absurd (cc)
set-is-put k v (e ∷ es) s h = fill_step k e.0 v e.1 es (text_cmp k e.0) refl (sorted_head text_cmp e.0 (keys_of es) s) h (set-is-put k v es (sorted_tail text_cmp e.0 (keys_of es) s))

-- ---- the same in the words of the table

pub found : (k : List ℕ) (es : Slots) → AreInOrder es → command_of (present es) k ≡ held (lookup (is_at (text_cmp k)) es)
unfolding command_of
found k es s = ap (λ (t : List ℕ → Bool). lookup t (present es)) (sym (same_test k)) ∙ lookup-present k es s

pub put_in : (k : List ℕ) (v : Cmd) (es : Slots) → AreInOrder es → present (insert_entry text_cmp es k (Some v)) ≡ with_command (present es) k v
unfolding with_command
put_in k v es s = present-put k v es s

pub taken : (k : List ℕ) (es : Slots) → AreInOrder es → present (set_value (is_at (text_cmp k)) es None) ≡ without_command (present es) k
unfolding without_command
taken k es s = present-take k es s ∙ ap (λ (t : List ℕ → Bool). remove_entry t (present es)) (same_test k)

absent_step_2 : (test : List ℕ → Bool) (b : Bool) (n : List ℕ) (w cmd : Option Cmd) (es : Slots) → cond b (Some cmd) (lookup test es) ≡ None → (lookup test es ≡ None → set_value test es w ≡ es)
    → cond b ((n, w) ∷ es) ((n, cmd) ∷ set_value test es w) ≡ (n, cmd) ∷ es
absent_step_2 test true n w cmd es h ih = absurd (cc)
absent_step_2 test false n w cmd es h ih = ap (λ (t : Slots). let u : Slots = (n, cmd) ∷ t in u) (ih h)

-- where there is no slot, none is written to
pub no_slot : (test : List ℕ → Bool) (w : Option Cmd) (es : Slots) → lookup test es ≡ None → set_value test es w ≡ es
no_slot test w [] h = refl
no_slot test w (e ∷ es) h = absent_step_2 test (test e.0) e.0 w e.1 es h (no_slot test w es)

-- where there is no slot, nothing is to be taken
pub taken_none : (k : List ℕ) (es : Slots) → AreInOrder es → lookup (is_at (text_cmp k)) es ≡ None → present es ≡ without_command (present es) k
taken_none k es s h = ap present (sym (no_slot (is_at (text_cmp k)) None es h)) ∙ taken k es s

pub reserved : (k : List ℕ) (es : Slots) → command_of (present es) k ≡ None → present (insert_entry text_cmp es k None) ≡ present es
unfolding command_of
reserved k es h = present-reserve k es (ap (λ (t : List ℕ → Bool). lookup t (present es)) (same_test k) ∙ h)

-- ---- the order of the table

above_step : (n m : List ℕ) (cmd : Option Cmd) (es : Slots) → text_cmp n m ≡ Less → IsBelow n (keys_of (present es)) → IsBelow n (keys_of (put_present m cmd (present es)))
above_step n m None es lt ih = ih
above_step n m (Some cmd) es lt ih = (lt, ih)

above : (n : List ℕ) (es : Slots) → IsBelow n (keys_of es) → IsBelow n (keys_of (present es))
unfolding present
above n [] b = tt
above n (e ∷ es) b = above_step n e.0 e.1 es b.0 (above n es b.1)

order_step : (n : List ℕ) (cmd : Option Cmd) (es : Slots) → IsBelow n (keys_of es) → IsStrictlySortedBy text_cmp (keys_of (present es)) → IsStrictlySortedBy text_cmp (keys_of (put_present n cmd (present es)))
unfolding IsStrictlySortedBy
order_step n None es b ih = ih
order_step n (Some cmd) es b ih = (above n es b, ih)

-- the names of the table stand in their order
pub present_in_order : (es : Slots) → AreInOrder es → IsStrictlySortedBy text_cmp (keys_of (present es))
unfolding present IsStrictlySortedBy
present_in_order [] s = tt
present_in_order (e ∷ es) s = order_step e.0 e.1 es s.0 (present_in_order es s.1)

-- ---- going over the slots

shown_step : (names : List (List ℕ)) (n : List ℕ) (cmd : Option Cmd) (t : Table) → is_some cmd ≡ true → (names ++ n ∷ []) ++ names_of t ≡ names ++ names_of (put_present n cmd t)
shown_step names n None t h = absurd (cc)
shown_step names n (Some cmd) t h = append_assoc names (n ∷ []) (names_of t)

-- the name of a slot that isn't empty is the next one
pub shown : (names : List (List ℕ)) (n : List ℕ) (cmd : Option Cmd) (es : Slots) → is_some cmd ≡ true → (names ++ n ∷ []) ++ names_of (present es) ≡ names ++ names_of (present ((n, cmd) ∷ es))
unfolding present
shown names n cmd es h = shown_step names n cmd (present es) h

passed_step : (n : List ℕ) (cmd : Option Cmd) (t : Table) → is_some cmd ≡ false → t ≡ put_present n cmd t
passed_step n None t h = refl
passed_step n (Some cmd) t h = absurd (cc)

-- an empty slot is passed over
pub passed : (n : List ℕ) (cmd : Option Cmd) (es : Slots) → is_some cmd ≡ false → present es ≡ present ((n, cmd) ∷ es)
unfolding present
passed n cmd es h = passed_step n cmd (present es) h

-- no slots are no entries
pub none_present : present [] ≡ []
unfolding present
none_present = refl

pub nothing_present : names_of (present []) ≡ []
nothing_present = ap names_of none_present
