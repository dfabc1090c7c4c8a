-- What a look tells one who saw an earlier state.
use Rattle.std.proofs.Common.{◌≡◌, ◌≢◌, ◌≤◌, ◌<◌, ℕ, Bool, true, false, cond, ◌⊎◌, inl, inr, List, [], ◌∷◌, ◌++◌, map, refl, sym, ap, ◌∙◌, arith}
use Rattle.std.specs.Prelude.{nat_lt, nat_le, ◌==◌, ◌&&◌}
use Rattle.std.specs.List.{AllByRecursion}
use Rattle.std.proofs.lemmas.Bool.{lt-ltb, le-ltb, ltb-true, ltb-false, leb-true, leb-false, eqb-true, eqb-false}
use Rattle.std.proofs.lemmas.List.{map-append}
use Rattle.cmd_table.specs.declared.definition.Def.{Def}
use Rattle.cmd_table.specs.Commands.{Commands}
use Rattle.blueprint.specs.declared.reply.Look.TheVariants.{Same, Since, Whole}
use Rattle.blueprint.specs.States.{Row, State, definitions, first_misfit, AreBetween, Allowed}
use Rattle.blueprint.specs.Looking.{since, Looks}
use Rattle.blueprint.specs.Objects.{GrewTo, Reaches}
use Rattle.blueprint.specs.Laws.{EqualEpochsAreOneState, EqualEpochsHaveEqualDefinitions, SameIsUnchanged, SinceIsAdded, SinceApplies, WholeIsAll, WholeIsBehindASave}
use Rattle.blueprint.proofs.Misfits.{fits_rest}

-- ---- rows

-- a list of rows can't begin above the last epoch
least_most : (least most : ℕ) (rows : List Row) → AreBetween least most rows → least ≤ most
least_most least most [] h = h
least_most least most (row ∷ rows) h = omega (arith, h.0, least_most row.epoch most rows h.1)

-- of later rows all were published since then
since_of_later : (epoch : ℕ) (rows : List Row) → AllByRecursion (λ row. epoch < row.epoch) rows → since epoch rows ≡ map (λ (row : Row). row.def) rows
since_of_later epoch [] k = refl
since_of_later epoch (row ∷ rows) k = rw (lt-ltb epoch row.epoch k.0) (ap (λ (ds : List Def). row.def ∷ ds) (since_of_later epoch rows k.1))

-- behind rows up to an epoch, these are the later ones alone
since_behind : (epoch least : ℕ) (rows further : List Row) → AreBetween least epoch rows → AllByRecursion (λ row. epoch < row.epoch) further → since epoch (rows ++ further) ≡ map (λ (row : Row). row.def) further
since_behind epoch least [] further h k = since_of_later epoch further k
since_behind epoch least (row ∷ rows) further h k =
    rw (le-ltb epoch row.epoch (least_most row.epoch epoch rows h.1)) (since_behind epoch row.epoch rows further h.1 k)

-- where no save came between, the definitions are the earlier ones and then those that were published since then
grown : (earlier now : State) → Allowed earlier → GrewTo earlier now → definitions now ≡ definitions earlier ++ since earlier.epoch now.rows
grown earlier now ok g =
    let further = g.1.0 in
    let added : since earlier.epoch now.rows ≡ map (λ (row : Row). row.def) further =
    ap (λ (rows : List Row). since earlier.epoch rows) g.1.1 ∙ since_behind earlier.epoch earlier.base earlier.rows further ok.epochs g.1.2
    in
    ap (λ (rows : List Row). map (λ (row : Row). row.def) rows) g.1.1
    ∙ map-append (λ (row : Row). row.def) earlier.rows further
    ∙ ap (λ (ds : List Def). definitions earlier ++ ds) (sym added)

grown_or_saved : (earlier now : State) → Allowed earlier → now.base ≤ earlier.epoch → ((earlier.epoch < now.base) ⊎ GrewTo earlier now) → definitions now ≡ definitions earlier ++ since earlier.epoch now.rows
grown_or_saved earlier now ok base (inl saved) = absurd (omega (arith, base, saved))
grown_or_saved earlier now ok base (inr g) = grown earlier now ok g

behind : (earlier now : State) → Allowed earlier → Reaches earlier now → now.base ≤ earlier.epoch → earlier.epoch < now.epoch → definitions now ≡ definitions earlier ++ since earlier.epoch now.rows
behind earlier now ok (inl same) base lt = let at : earlier.epoch ≡ now.epoch = ap (λ (s : State). s.epoch) same in absurd (omega (arith, at, lt))
behind earlier now ok (inr h) base lt = grown_or_saved earlier now ok base h.2

-- ---- what each answer tells

same_step : (state : State) (seen : ℕ) (same within : Bool) → (seen == state.epoch) ≡ same → Same ≡ cond same Same (cond within (Since state.epoch (since seen state.rows)) (Whole state.epoch (definitions state))) → seen ≡ state.epoch
same_step state seen true within s is = eqb-true seen state.epoch s
same_step state seen false true s is = absurd (cc)
same_step state seen false false s is = absurd (cc)

same_told : (state : State) (seen : ℕ) → Looks state seen Same → seen ≡ state.epoch
same_told state seen is = same_step state seen (seen == state.epoch) (nat_le state.base seen && nat_lt seen state.epoch) refl is

since_step : (state : State) (seen epoch : ℕ) (defs : List Def) (same low high : Bool) → nat_le state.base seen ≡ low → nat_lt seen state.epoch ≡ high
    → Since epoch defs ≡ cond same Same (cond (low && high) (Since state.epoch (since seen state.rows)) (Whole state.epoch (definitions state)))
    → (state.base ≤ seen) × (seen < state.epoch) × (epoch ≡ state.epoch) × (defs ≡ since seen state.rows)
since_step state seen epoch defs true low high l h is = absurd (cc)
since_step state seen epoch defs false false high l h is = absurd (cc)
since_step state seen epoch defs false true false l h is = absurd (cc)
since_step state seen epoch defs false true true l h is = (leb-true state.base seen l, ltb-true seen state.epoch h, (cc), (cc))

since_told : (state : State) (seen epoch : ℕ) (defs : List Def) → Looks state seen (Since epoch defs) → (state.base ≤ seen) × (seen < state.epoch) × (epoch ≡ state.epoch) × (defs ≡ since seen state.rows)
since_told state seen epoch defs is = since_step state seen epoch defs (seen == state.epoch) (nat_le state.base seen) (nat_lt seen state.epoch) refl refl is

whole_step : (state : State) (seen epoch : ℕ) (defs : List Def) (same low high : Bool) → (seen == state.epoch) ≡ same → nat_le state.base seen ≡ low → nat_lt seen state.epoch ≡ high
    → Whole epoch defs ≡ cond same Same (cond (low && high) (Since state.epoch (since seen state.rows)) (Whole state.epoch (definitions state)))
    → (epoch ≡ state.epoch) × (defs ≡ definitions state) × (seen ≢ state.epoch) × (seen < state.epoch → seen < state.base)
whole_step state seen epoch defs true low high s l h is = absurd (cc)
whole_step state seen epoch defs false true true s l h is = absurd (cc)
whole_step state seen epoch defs false true false s l h is = ((cc), (cc), eqb-false seen state.epoch s, λ lt. absurd (omega (arith, lt, ltb-false seen state.epoch h)))
whole_step state seen epoch defs false false high s l h is = ((cc), (cc), eqb-false seen state.epoch s, λ lt. leb-false state.base seen l)

whole_told : (state : State) (seen epoch : ℕ) (defs : List Def) → Looks state seen (Whole epoch defs) → (epoch ≡ state.epoch) × (defs ≡ definitions state) × (seen ≢ state.epoch) × (seen < state.epoch → seen < state.base)
whole_told state seen epoch defs is = whole_step state seen epoch defs (seen == state.epoch) (nat_le state.base seen) (nat_lt seen state.epoch) refl refl refl is

-- ---- the laws

pub one_state : EqualEpochsAreOneState
one_state earlier now ok fine (inl same) at = same
one_state earlier now ok fine (inr h) at = absurd (omega (arith, at, h.1))

pub equal_definitions : EqualEpochsHaveEqualDefinitions
equal_definitions earlier now ok fine reached at = ap (λ (s : State). definitions s) (one_state earlier now ok fine reached at)

pub unchanged : SameIsUnchanged
unchanged earlier now ok fine reached is = one_state earlier now ok fine reached (same_told now earlier.epoch is)

pub added : SinceIsAdded
added earlier now ok fine reached epoch defs is =
    let t = since_told now earlier.epoch epoch defs is in
    (t.2, behind earlier now ok reached t.0 t.1 ∙ ap (λ (ds : List Def). definitions earlier ++ ds) (sym t.3))

pub applies : SinceApplies
applies earlier now ok fine reached epoch defs is =
    fits_rest 0 0 (Commands now.natives []) (definitions earlier) defs
    (ap (λ (ds : List Def). first_misfit (Commands now.natives []) ds) (sym (added earlier now ok fine reached epoch defs is).1) ∙ fine.applies)

pub all : WholeIsAll
all now fine seen epoch defs is =
    let t = whole_told now seen epoch defs is in
    (t.0, t.1, ap (λ (ds : List Def). first_misfit (Commands now.natives []) ds) t.1 ∙ fine.applies)

later : (earlier now : State) → Reaches earlier now → earlier.epoch ≢ now.epoch → earlier.epoch < now.epoch
later earlier now (inl same) apart = absurd (apart (ap (λ (s : State). s.epoch) same))
later earlier now (inr h) apart = h.1

pub saved : WholeIsBehindASave
saved earlier now ok fine reached epoch defs is =
    let t = whole_told now earlier.epoch epoch defs is in
    t.3 (later earlier now reached t.2)
