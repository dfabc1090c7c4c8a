-- What a change of a slot does, and what takes it back.
use Rattle.std.proofs.Common.{◌≡◌, ℕ, suc, true, false, cond, List, [], ◌∷◌, ◌++◌, length, Option, Some, None, refl, sym, ap, ◌∙◌, subst}
use Rattle.std.specs.declared.cmp.Ordering.{Ordering}
use Rattle.std.specs.declared.cmp.Ordering.TheVariants.{Less, Equal, Greater}
use Rattle.std.specs.Ordering.{is_eq, match_ordering}
use Rattle.std.specs.Cmp.Lexicographic.{nat_list_eq_equiv}
use Rattle.std.specs.Map.{lookup, set_value, remove_entry, keys_of}
use Rattle.std.specs.Option.{IsSome}
use Rattle.std.specs.BTreeMap.{insert_entry, is_at}
use Rattle.std.proofs.lemmas.Map.Keys.{sorted_head, sorted_tail}
use Rattle.std.proofs.lemmas.Map.Text.{is_eq-slice_cmp}
use Rattle.txt_core.specs.Order.{text_cmp}
use Rattle.cmd_table.specs.declared.command.Cmd.{Cmd}
use Rattle.cmd_table.specs.declared.journal.Row.{Row}
use Rattle.cmd_table.specs.Table.{Table, without_command}
use Rattle.cmd_table.specs.Slots.{Slots, present, with_option, AreInOrder}
use Rattle.cmd_table.specs.Journal.{with_slot, back, undone, past_of}
use Rattle.cmd_table.proofs.Changes.{IsBelow, below_more, none_below, held, found, put_in, reserved, taken, taken_none, set-is-put}

emptied_at : (k : List ℕ) (es : Slots) (o : Option (Option Cmd)) → AreInOrder es → lookup (is_at (text_cmp k)) es ≡ o → present (insert_entry text_cmp es k None) ≡ without_command (present es) k
emptied_at k es None s at = reserved k es (found k es s ∙ ap held at) ∙ taken_none k es s at
emptied_at k es (Some w) s at = ap present (sym (set-is-put k None es s (subst (λ (o : Option (Option Cmd)). IsSome o) (sym at) refl))) ∙ taken k es s

-- what the slot of a name holds is the command of this name
pub slot_changed : (k : List ℕ) (v : Option Cmd) (es : Slots) → AreInOrder es → present (insert_entry text_cmp es k v) ≡ with_option (present es) k v
slot_changed k None es s = emptied_at k es (lookup (is_at (text_cmp k)) es) s refl
slot_changed k (Some v) es s = put_in k v es s

itself : (k : List ℕ) → is_eq (text_cmp k k) ≡ true
itself k = is_eq-slice_cmp k k ∙ nat_list_eq_equiv.refl k

none_step : (k n : List ℕ) (w x : Option Cmd) (es : Slots) (o : Ordering) → text_cmp k n ≡ o → cond (is_eq o) (Some x) (lookup (is_at (text_cmp k)) es) ≡ None
    → (lookup (is_at (text_cmp k)) es ≡ None → remove_entry (is_at (text_cmp k)) (insert_entry text_cmp es k w) ≡ es)
    → remove_entry (is_at (text_cmp k)) (match_ordering o ((k, w) ∷ (n, x) ∷ es) ((n, w) ∷ es) ((n, x) ∷ insert_entry text_cmp es k w)) ≡ (n, x) ∷ es
none_step k n w x es Less at h ih = rw (itself k) refl
none_step k n w x es Equal at h ih = absurd (cc)
none_step k n w x es Greater at h ih = rw at (ap (λ (t : Slots). let u : Slots = (n, x) ∷ t in u) (ih h))

-- a slot that is made and taken away again
made_and_gone : (k : List ℕ) (w : Option Cmd) (es : Slots) → lookup (is_at (text_cmp k)) es ≡ None → remove_entry (is_at (text_cmp k)) (insert_entry text_cmp es k w) ≡ es
made_and_gone k w [] at = rw (itself k) refl
made_and_gone k w (e ∷ es) at = none_step k e.0 w e.1 es (text_cmp k e.0) refl at (made_and_gone k w es)

some_step : (k n : List ℕ) (w x old : Option Cmd) (es : Slots) (o : Ordering) → text_cmp k n ≡ o → IsBelow n (keys_of es) → cond (is_eq o) (Some x) (lookup (is_at (text_cmp k)) es) ≡ Some old
    → (lookup (is_at (text_cmp k)) es ≡ Some old → set_value (is_at (text_cmp k)) (insert_entry text_cmp es k w) old ≡ es)
    → set_value (is_at (text_cmp k)) (match_ordering o ((k, w) ∷ (n, x) ∷ es) ((n, w) ∷ es) ((n, x) ∷ insert_entry text_cmp es k w)) old ≡ (n, x) ∷ es
some_step k n w x old es Less at b h ih = let e = none_below k es (below_more k n (keys_of es) at b) in let f : None ≡ Some old = sym e ∙ h in absurd (cc)
some_step k n w x old es Equal at b h ih = rw at (ap (λ (o : Option (Option Cmd)). let u : Slots = (n, held o) ∷ es in u) (sym h))
some_step k n w x old es Greater at b h ih = rw at (ap (λ (t : Slots). let u : Slots = (n, x) ∷ t in u) (ih h))

-- a slot that holds again what it held
held_again : (k : List ℕ) (w old : Option Cmd) (es : Slots) → AreInOrder es → lookup (is_at (text_cmp k)) es ≡ Some old → set_value (is_at (text_cmp k)) (insert_entry text_cmp es k w) old ≡ es
held_again k w old [] s at = absurd (cc)
held_again k w old (e ∷ es) s at =
    some_step k e.0 w e.1 old es (text_cmp k e.0) refl (sorted_head text_cmp e.0 (keys_of es) s) at (held_again k w old es (sorted_tail text_cmp e.0 (keys_of es) s))

taken_back_at : (k : List ℕ) (w : Option Cmd) (es : Slots) (before : Option (Option Cmd)) → AreInOrder es → lookup (is_at (text_cmp k)) es ≡ before → with_slot (insert_entry text_cmp es k w) k before ≡ es
taken_back_at k w es None s at = made_and_gone k w es at
taken_back_at k w es (Some old) s at = held_again k w old es s at

-- the slots are what they were
pub taken_back : (row : Row) (w : Option Cmd) (es : Slots) → AreInOrder es → row.before ≡ lookup (is_at (text_cmp row.name)) es → back row (insert_entry text_cmp es row.name w) ≡ es
taken_back row w es s noted = taken_back_at row.name w es row.before s (sym noted)

-- the last change is the first to be taken back
pub undone_last : (rows : List Row) (row : Row) (es : Slots) → undone (rows ++ row ∷ []) es ≡ undone rows (back row es)
undone_last [] row es = refl
undone_last (first ∷ rows) row es = ap (back first) (undone_last rows row es)

pub past_last : (rows : List Row) (row : Row) (es : Slots) → past_of (rows ++ row ∷ []) es ≡ past_of rows (back row es) ++ present (back row es) ∷ []
past_last [] row es = refl
past_last (first ∷ rows) row es =
    ap (λ (s : Slots). let t : List Table = present (back first s) ∷ past_of (rows ++ row ∷ []) es in t) (undone_last rows row es)
    ∙ ap (λ (t : List Table). present (back first (undone rows (back row es))) ∷ t) (past_last rows row es)

-- a change that is noted adds the table before it to the past
pub past_noted : (rows : List Row) (row : Row) (es after : Slots) → back row after ≡ es → past_of (rows ++ row ∷ []) after ≡ past_of rows es ++ present es ∷ []
past_noted rows row es after same = past_last rows row after ∙ ap (λ (s : Slots). past_of rows s ++ present s ∷ []) same

pub past_length : (rows : List Row) (es : Slots) → length (past_of rows es) ≡ length rows
past_length [] es = refl
past_length (row ∷ rows) es = ap (λ n. suc n) (past_length rows es)
