-- Marks, and going back to them.
use Rattle.std.proofs.Common.{◌≡◌, ℕ, suc, zero, ◌+◌, ◌≤◌, ◌<◌, List, [], ◌∷◌, ◌++◌, length, take, slice_index_or, refl, sym, ap, ◌∙◌, subst, arith, length-append}
use Rattle.std.proofs.Math.Seq.{take-length}
use Rattle.std.proofs.lemmas.List.{take-append-le, length-take-le}
use Rattle.cmd_table.specs.Table.{Table, State, changed, mark_of, table_at, back_at, Keeps}
use Rattle.cmd_table.specs.Laws.{MarkIsNow, BackKeepsMarks, KeepingGoesOn}

take_front : (past : List Table) (now : Table) (mark : ℕ) → mark ≤ length past → take mark (past ++ now ∷ []) ≡ take mark past
take_front past now mark h = take-append-le mark past (now ∷ []) h

index_front : (past : List Table) (now later : Table) (mark : ℕ) → mark ≤ length past → slice_index_or (past ++ now ∷ []) mark later ≡ slice_index_or past mark now
index_front [] now later zero h = refl
index_front [] now later (suc m) h = absurd (omega arith)
index_front (t ∷ past) now later zero h = refl
index_front (t ∷ past) now later (suc m) h = index_front past now later m (omega arith)

index_end : (past : List Table) (now : Table) → slice_index_or past (length past) now ≡ now
index_end [] now = refl
index_end (t ∷ past) now = index_end past now

index_within : (past : List Table) (now : Table) (mark earlier : ℕ) → earlier ≤ mark → mark ≤ length past → slice_index_or (take mark past) earlier (slice_index_or past mark now) ≡ slice_index_or past earlier now
index_within [] now zero zero h g = refl
index_within [] now zero (suc e) h g = absurd (omega arith)
index_within [] now (suc m) e h g = absurd (omega arith)
index_within (t ∷ past) now zero zero h g = refl
index_within (t ∷ past) now zero (suc e) h g = absurd (omega arith)
index_within (t ∷ past) now (suc m) zero h g = refl
index_within (t ∷ past) now (suc m) (suc e) h g = index_within past now m e (omega arith) (omega arith)

take_within : (past : List Table) (mark earlier : ℕ) → earlier ≤ mark → take earlier (take mark past) ≡ take earlier past
take_within [] zero zero h = refl
take_within [] zero (suc e) h = absurd (omega arith)
take_within [] (suc m) zero h = refl
take_within [] (suc m) (suc e) h = refl
take_within (t ∷ past) zero zero h = refl
take_within (t ∷ past) zero (suc e) h = absurd (omega arith)
take_within (t ∷ past) (suc m) zero h = refl
take_within (t ∷ past) (suc m) (suc e) h = ap (λ (l : List Table). t ∷ l) (take_within past m e (omega arith))

pub mark_is_now : MarkIsNow
mark_is_now state =
    ap (λ (t : List Table). let s : State = record { past = t; table = table_at state (mark_of state) } in s) (take-length state.past)
    ∙ ap (λ (t : Table). let s : State = record { past = state.past; table = t } in s) (index_end state.past state.table)

pub back_keeps_marks : BackKeepsMarks
back_keeps_marks state mark earlier h g =
    let n = length-take-le mark state.past g in (
      omega (arith, n),
      ap (λ (t : List Table). let s : State = record { past = t; table = table_at (back_at state mark) earlier } in s) (take_within state.past mark earlier h)
          ∙ ap (λ (t : Table). let s : State = record { past = take earlier state.past; table = t } in s) (index_within state.past state.table mark earlier h g),
    )

-- a change leaves all earlier marks
pub back_before : (state : State) (table : Table) (mark : ℕ) → mark ≤ mark_of state → back_at (changed state table) mark ≡ back_at state mark
back_before state table mark h =
    ap (λ (t : List Table). let s : State = record { past = t; table = table_at (changed state table) mark } in s) (take_front state.past state.table mark h)
    ∙ ap (λ (t : Table). let s : State = record { past = take mark state.past; table = t } in s) (index_front state.past state.table table mark h)

pub mark_after : (state : State) (table : Table) → mark_of (changed state table) ≡ mark_of state + 1
mark_after state table = length-append state.past (state.table ∷ [])

pub keeping_goes_on : KeepingGoesOn
keeping_goes_on first second third f g mark h =
    let one = f mark h in
    let two = g mark one.0 in
    (two.0, two.1 ∙ one.1)

-- a change that is taken back leaves all marks but its own
pub one_back : (before after : State) (mark : ℕ) → before ≡ changed after before.table → mark < mark_of before
    → (mark ≤ mark_of after) × (back_at after mark ≡ back_at before mark) × (mark_of before ≡ mark_of after + 1)
one_back before after mark is below =
    let count : mark_of before ≡ mark_of after + 1 = ap mark_of is ∙ mark_after after before.table in
    let within : mark ≤ mark_of after = omega arith in
    (within, sym (ap (λ (s : State). back_at s mark) is ∙ back_before after before.table mark within), count)

-- at its own mark a state is itself
pub all_back : (state : State) (mark : ℕ) → mark ≤ mark_of state → mark_of state ≤ mark → back_at state mark ≡ state
all_back state mark within above =
    let here : mark ≡ mark_of state = omega arith in
    ap (back_at state) here ∙ mark_is_now state
