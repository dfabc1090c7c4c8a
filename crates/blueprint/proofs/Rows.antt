-- The rows of definitions that stand epoch by epoch.
use Rattle.std.proofs.Common.{◌≡◌, ◌≤◌, ◌<◌, ℕ, zero, suc, ◌+◌, true, false, List, [], ◌∷◌, ◌++◌, length, drop, map, append_assoc, length-append, refl, sym, ap, ◌∙◌, arith}
use Rattle.std.specs.Prelude.{nat_lt}
use Rattle.std.proofs.lemmas.Bool.{lt-ltb, le-ltb}
use Rattle.std.proofs.lemmas.List.{append-nil, length-map}
use Rattle.cmd_table.specs.declared.definition.Def.{Def}
use Rattle.blueprint.specs.Scripts.{line_of, script_of}
use Rattle.blueprint.specs.States.{Row, State, definitions, rows_of, AreBetween}
use Rattle.blueprint.specs.Looking.{since}
use Rattle.blueprint.specs.Publishing.{with_published, with_saved}
use Rattle.blueprint.specs.Kept.{all_of, lines_of, rows_from, state_of}

-- ---- the definitions of rows

defs_behind : (epoch : ℕ) (defs : List Def) (rows : List Row) → map (λ (row : Row). row.def) (rows_of epoch defs ++ rows) ≡ defs ++ map (λ (row : Row). row.def) rows
defs_behind epoch [] rows = refl
defs_behind epoch (def ∷ defs) rows = ap (λ (ds : List Def). def ∷ ds) (defs_behind epoch defs rows)

-- rows have the definitions of all lists
pub defs_of : (epoch : ℕ) (lists : List (List Def)) → map (λ (row : Row). row.def) (rows_from epoch lists) ≡ all_of lists
defs_of epoch [] = refl
defs_of epoch (defs ∷ lists) = defs_behind epoch defs (rows_from (epoch + 1) lists) ∙ ap (λ (ds : List Def). defs ++ ds) (defs_of (epoch + 1) lists)

-- and so many of them
pub count_of : (epoch : ℕ) (lists : List (List Def)) → length (rows_from epoch lists) ≡ length (all_of lists)
count_of epoch lists = sym (length-map (rows_from epoch lists) (λ (row : Row). row.def)) ∙ ap (λ (ds : List Def). length ds) (defs_of epoch lists)

-- ---- one list more

pub all_more : (lists : List (List Def)) (made : List Def) → all_of (lists ++ made ∷ []) ≡ all_of lists ++ made
all_more [] made = append-nil made
all_more (defs ∷ lists) made = ap (λ (ds : List Def). defs ++ ds) (all_more lists made) ∙ sym (append_assoc defs (all_of lists) made)

rows_more : (epoch : ℕ) (lists : List (List Def)) (made : List Def) → rows_from epoch (lists ++ made ∷ []) ≡ rows_from epoch lists ++ rows_of (epoch + length lists) made
rows_more epoch [] made =
    let same : epoch ≡ epoch + 0 = omega arith in
    append-nil (rows_of epoch made) ∙ ap (λ (n : ℕ). rows_of n made) same
rows_more epoch (defs ∷ lists) made =
    let same : epoch + 1 + length lists ≡ epoch + suc (length lists) = omega arith in
    ap (λ (rows : List Row). rows_of epoch defs ++ rows) (rows_more (epoch + 1) lists made)
    ∙ sym (append_assoc (rows_of epoch defs) (rows_from (epoch + 1) lists) (rows_of (epoch + 1 + length lists) made))
    ∙ ap (λ (n : ℕ). (rows_of epoch defs ++ rows_from (epoch + 1) lists) ++ rows_of n made) same

-- the state after a publication
pub published_state : (natives : List (List ℕ)) (base : ℕ) (saved made : List Def) (later : List (List Def)) → state_of natives base saved (later ++ made ∷ []) ≡ with_published (state_of natives base saved later) made
published_state natives base saved made later =
    let epoch : base + length (later ++ made ∷ []) ≡ base + length later + 1 = omega (arith, length-append later (made ∷ [])) in
    let same : base + suc (length later) ≡ base + length later + 1 = omega arith in
    let rows : rows_from base (saved ∷ (later ++ made ∷ [])) ≡ rows_from base (saved ∷ later) ++ rows_of (base + length later + 1) made =
    rows_more base (saved ∷ later) made ∙ ap (λ (n : ℕ). rows_from base (saved ∷ later) ++ rows_of n made) same
    in
    λ i. record { natives = natives; base = base; epoch = epoch i; rows = rows i }

-- the state after a save
pub saved_state : (natives : List (List ℕ)) (state : State) (epoch : ℕ) (made : List Def) → natives ≡ state.natives → epoch ≡ state.epoch + 1 → state_of natives epoch made [] ≡ with_saved state made
saved_state natives state epoch made same at =
    let now : epoch + 0 ≡ state.epoch + 1 = omega (arith, at) in
    let rows : rows_from epoch (made ∷ []) ≡ rows_of (state.epoch + 1) made = append-nil (rows_of epoch made) ∙ ap (λ (n : ℕ). rows_of n made) at in
    λ i. record { natives = same i; base = at i; epoch = now i; rows = rows i }

-- ---- epochs

between_less : (least epoch most : ℕ) (rows : List Row) → least ≤ epoch → AreBetween epoch most rows → AreBetween least most rows
between_less least epoch most [] le h = omega (arith, h)
between_less least epoch most (row ∷ rows) le h = (omega (arith, h.0), h.1)

between_rows : (least epoch most : ℕ) (defs : List Def) (rows : List Row) → least ≤ epoch → AreBetween epoch most rows → AreBetween least most (rows_of epoch defs ++ rows)
between_rows least epoch most [] rows le h = between_less least epoch most rows le h
between_rows least epoch most (def ∷ defs) rows le h = (le, between_rows epoch epoch most defs rows (omega arith) h)

pub between : (least epoch most : ℕ) (lists : List (List Def)) → least ≤ most → least ≤ epoch → epoch + length lists ≤ most + 1 → AreBetween least most (rows_from epoch lists)
between least epoch most [] le from to = le
between least epoch most (defs ∷ lists) le from to =
    between_rows least epoch most defs (rows_from (epoch + 1) lists) from
    (between epoch (epoch + 1) most lists (omega arith) (omega arith) (omega arith))

-- ---- what was added since an epoch

since_later : (epoch at : ℕ) (defs : List Def) (rows : List Row) → nat_lt epoch at ≡ true → since epoch (rows_of at defs ++ rows) ≡ defs ++ since epoch rows
since_later epoch at [] rows lt = refl
since_later epoch at (def ∷ defs) rows lt = rw lt (ap (λ (ds : List Def). def ∷ ds) (since_later epoch at defs rows lt))

since_before : (epoch at : ℕ) (defs : List Def) (rows : List Row) → nat_lt epoch at ≡ false → since epoch (rows_of at defs ++ rows) ≡ since epoch rows
since_before epoch at [] rows lt = refl
since_before epoch at (def ∷ defs) rows lt = rw lt (since_before epoch at defs rows lt)

since_all : (epoch at : ℕ) (lists : List (List Def)) → epoch < at → since epoch (rows_from at lists) ≡ all_of lists
since_all epoch at [] lt = refl
since_all epoch at (defs ∷ lists) lt =
    since_later epoch at defs (rows_from (at + 1) lists) (lt-ltb epoch at lt)
    ∙ ap (λ (ds : List Def). defs ++ ds) (since_all epoch (at + 1) lists (omega arith))

-- the lists behind that of the epoch
pub since_place : (place base epoch : ℕ) (saved : List Def) (later : List (List Def)) → epoch ≡ base + place → since epoch (rows_from base (saved ∷ later)) ≡ all_of (drop place later)
since_place zero base epoch saved later at =
    since_before epoch base saved (rows_from (base + 1) later) (le-ltb epoch base (omega arith)) ∙ since_all epoch (base + 1) later (omega arith)
since_place (suc place) base epoch saved [] at = since_before epoch base saved [] (le-ltb epoch base (omega arith))
since_place (suc place) base epoch saved (defs ∷ later) at =
    since_before epoch base saved (rows_from (base + 1) (defs ∷ later)) (le-ltb epoch base (omega arith))
    ∙ since_place place (base + 1) epoch defs later (omega arith)

-- ---- scripts

pub script_append : (xs ys : List Def) → script_of (xs ++ ys) ≡ script_of xs ++ script_of ys
script_append [] ys = refl
script_append (x ∷ xs) ys = ap (λ (s : List ℕ). line_of x ++ s) (script_append xs ys) ∙ sym (append_assoc (line_of x) (script_of xs) (script_of ys))

pub lines_are : (lists : List (List Def)) → lines_of lists ≡ script_of (all_of lists)
lines_are [] = refl
lines_are (defs ∷ lists) = ap (λ (s : List ℕ). script_of defs ++ s) (lines_are lists) ∙ sym (script_append defs (all_of lists))

-- the definitions of a state
pub state_defs : (natives : List (List ℕ)) (base : ℕ) (saved : List Def) (later : List (List Def)) (state : State) → state_of natives base saved later ≡ state → definitions state ≡ saved ++ all_of later
state_defs natives base saved later state is = ap (λ (s : State). definitions s) (sym is) ∙ defs_of base (saved ∷ later)

-- the whole script, in two parts
pub whole_script : (natives : List (List ℕ)) (base : ℕ) (saved front : List Def) (later lists : List (List Def)) (state : State) (none first all : List ℕ) → state_of natives base saved later ≡ state
    → none ≡ [] → front ≡ saved → lists ≡ later → first ≡ none ++ script_of front → all ≡ first ++ lines_of lists → all ≡ script_of (definitions state)
whole_script natives base saved front later lists state none first all is empty one more begun ended =
    ended
    ∙ ap (λ (s : List ℕ). s ++ lines_of lists) (begun ∙ ap (λ (s : List ℕ). s ++ script_of front) empty ∙ ap (λ (ds : List Def). script_of ds) one)
    ∙ ap (λ (s : List ℕ). script_of saved ++ s) (lines_are lists ∙ ap (λ (ls : List (List Def)). script_of (all_of ls)) more)
    ∙ sym (script_append saved (all_of later))
    ∙ ap (λ (ds : List Def). script_of ds) (sym (state_defs natives base saved later state is))

-- all definitions, in two parts
pub whole_defs : (natives : List (List ℕ)) (base : ℕ) (saved front : List Def) (later lists : List (List Def)) (state : State) (none first all : List Def) → state_of natives base saved later ≡ state
    → none ≡ [] → front ≡ saved → lists ≡ later → first ≡ none ++ front → all ≡ first ++ all_of lists → all ≡ definitions state
whole_defs natives base saved front later lists state none first all is empty one more begun ended =
    ended
    ∙ ap (λ (ds : List Def). ds ++ all_of lists) (begun ∙ ap (λ (ds : List Def). ds ++ front) empty ∙ one)
    ∙ ap (λ (ls : List (List Def)). saved ++ all_of ls) more
    ∙ sym (state_defs natives base saved later state is)
