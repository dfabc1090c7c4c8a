-- What is answered, by the first definition that doesn't apply and by the limits.
use Rattle.std.proofs.Common.{◌≡◌, ◌≢◌, ◌≤◌, ◌<◌, ℕ, ◌+◌, Bool, true, false, cond, ◌||◌, List, [], ◌∷◌, ◌++◌, length, Option, Some, None, refl, sym, ap, ◌∙◌, arith, fold, length-append, append_assoc, take, drop, get_or}
use Rattle.std.specs.Prelude.{nat_lt, ◌==◌}
use Rattle.std.proofs.lemmas.Bool.{ltb-false, lt-ltb, le-ltb}
use Rattle.std.proofs.lemmas.Bool.Decides.{nat_tests}
use Rattle.std.proofs.lemmas.List.{take_more, drop_more}
use Rattle.std.proofs.lemmas.List.Sums.{fold_push}
use Rattle.cmd_table.specs.declared.definition.Def.{Def}
use Rattle.cmd_table.specs.Table.{Table}
use Rattle.cmd_table.specs.Commands.{fits, defined, built, Commands}
use Rattle.blueprint.specs.declared.reply.Published.{Published}
use Rattle.blueprint.specs.declared.reply.Published.TheVariants as replies
use Rattle.blueprint.specs.declared.reply.Limit.TheVariants.{Count, Bytes}
use Rattle.blueprint.specs.Scripts.{script_of}
use Rattle.blueprint.specs.States.{State, misfit_from, most_definitions, most_script, last_epoch}
use Rattle.blueprint.specs.Publishing.{by_room, by_misfit, Answers}
use Rattle.blueprint.specs.Kept.{IsRefused}
use Rattle.blueprint.proofs.Rows.{script_append}

-- ---- definitions that apply

fits_step : (place other : ℕ) (table : Table) (def : Def) (defs : List Def) (b : Bool) → fits table def ≡ b
    → (misfit_from (place + 1) (defined table def) defs ≡ None → misfit_from (other + 1) (defined table def) defs ≡ None)
    → cond b (misfit_from (place + 1) (defined table def) defs) (Some place) ≡ None → cond b (misfit_from (other + 1) (defined table def) defs) (Some other) ≡ None
fits_step place other table def defs true at go h = go h
fits_step place other table def defs false at go h = absurd (cc)

-- that all apply doesn't depend on the places
pub fits_at : (place other : ℕ) (table : Table) (defs : List Def) → misfit_from place table defs ≡ None → misfit_from other table defs ≡ None
fits_at place other table [] h = refl
fits_at place other table (def ∷ defs) h = fits_step place other table def defs (fits table def) refl (fits_at (place + 1) (other + 1) (defined table def) defs) h

both_step : (place : ℕ) (table : Table) (def : Def) (defs more : List Def) (b : Bool)
    → (misfit_from (place + 1) (defined table def) defs ≡ None → misfit_from (place + 1) (defined table def) (defs ++ more) ≡ None)
    → cond b (misfit_from (place + 1) (defined table def) defs) (Some place) ≡ None → cond b (misfit_from (place + 1) (defined table def) (defs ++ more)) (Some place) ≡ None
both_step place table def defs more true go h = go h
both_step place table def defs more false go h = absurd (cc)

-- definitions that apply behind others that apply
pub fits_both : (place other : ℕ) (table : Table) (defs more : List Def) → misfit_from place table defs ≡ None → misfit_from other (fold defined table defs) more ≡ None → misfit_from place table (defs ++ more) ≡ None
fits_both place other table [] more h k = fits_at other place table more k
fits_both place other table (def ∷ defs) more h k =
    both_step place table def defs more (fits table def) (λ rest. fits_both (place + 1) other (defined table def) defs more rest k) h

rest_step : (place : ℕ) (rest : Option ℕ) (b : Bool) → cond b rest (Some place) ≡ None → rest ≡ None
rest_step place rest true h = h
rest_step place rest false h = absurd (cc)

-- of definitions that apply, the further ones apply behind the first ones
pub fits_rest : (place other : ℕ) (table : Table) (defs more : List Def) → misfit_from place table (defs ++ more) ≡ None → misfit_from other (fold defined table defs) more ≡ None
fits_rest place other table [] more h = fits_at place other table more h
fits_rest place other table (def ∷ defs) more h =
    fits_rest (place + 1) other (defined table def) defs more (rest_step place (misfit_from (place + 1) (defined table def) (defs ++ more)) (fits table def) h)

-- ---- refusals

-- a refusal leaves the state
pub refused : (state other : State) (expected reply : Published) → IsRefused expected reply → Answers state expected other reply state
refused state other expected replies.NoMemory h = refl
refused state other expected (replies.Done epoch) h = absurd h
refused state other expected (replies.NotADefinition number) h = (h, refl)
refused state other expected (replies.NotApplicable place) h = (h, refl)
refused state other expected (replies.Full limit) h = (h, refl)

-- what is done has its reasons
pub record IsFit (misfit : Option ℕ) (epoch : ℕ) (all : List Def) : Type 0 where
  pub applies : misfit ≡ None
  pub few : length all ≤ most_definitions
  pub goes_on : epoch ≢ last_epoch
  pub short : length (script_of all) ≤ most_script

room_step : (epoch next : ℕ) (all : List Def) (many last long : Bool) → nat_lt most_definitions (length all) ≡ many → (epoch == last_epoch) ≡ last → nat_lt most_script (length (script_of all)) ≡ long
    → cond (many || last) (replies.Full Count) (cond long (replies.Full Bytes) (replies.Done (epoch + 1))) ≡ replies.Done next
    → (length all ≤ most_definitions) × (epoch ≢ last_epoch) × (length (script_of all) ≤ most_script)
room_step epoch next all true last long m l s h = absurd (cc)
room_step epoch next all false true long m l s h = absurd (cc)
room_step epoch next all false false true m l s h = absurd (cc)
room_step epoch next all false false false m l s h = (
  ltb-false most_definitions (length all) m,
  λ is. let t : (epoch == last_epoch) ≡ true = ap (λ (n : ℕ). n == last_epoch) is in absurd (cc),
  ltb-false most_script (length (script_of all)) s,
)

fit_step : (misfit : Option ℕ) (epoch next : ℕ) (all : List Def) → by_misfit misfit (by_room epoch all) ≡ replies.Done next → IsFit misfit epoch all
fit_step (Some place) epoch next all h = absurd (cc)
fit_step None epoch next all h =
    let r = room_step epoch next all (nat_lt most_definitions (length all)) (epoch == last_epoch) (nat_lt most_script (length (script_of all))) refl refl refl h in
    record { applies = refl; few = r.0; goes_on = r.1; short = r.2 }

pub fit : (misfit : Option ℕ) (epoch next : ℕ) (all : List Def) → by_misfit misfit (by_room epoch all) ≡ replies.Done next → IsFit misfit epoch all
fit misfit epoch next all h = fit_step misfit epoch next all h

-- ---- room

-- too many bytes
pub room_long : (epoch : ℕ) (before made : List Def) → length before + length made ≤ most_definitions → epoch ≢ last_epoch → most_script < length (script_of before) + length (script_of made)
    → replies.Full Bytes ≡ by_room epoch (before ++ made)
room_long epoch before made few goes long =
    let many : nat_lt most_definitions (length (before ++ made)) ≡ false = le-ltb most_definitions (length (before ++ made)) (omega (arith, length-append before made)) in
    let last : (epoch == last_epoch) ≡ false = grind (arith, nat_tests) in
    let bytes : nat_lt most_script (length (script_of (before ++ made))) ≡ true =
    lt-ltb most_script (length (script_of (before ++ made))) (omega (arith, ap (λ (s : List ℕ). length s) (script_append before made), length-append (script_of before) (script_of made)))
    in
    rw (many, last, bytes) refl

-- enough room
pub room_done : (epoch : ℕ) (before made : List Def) → length before + length made ≤ most_definitions → epoch ≢ last_epoch → length (script_of before) + length (script_of made) ≤ most_script
    → by_room epoch (before ++ made) ≡ replies.Done (epoch + 1)
room_done epoch before made few goes short =
    let many : nat_lt most_definitions (length (before ++ made)) ≡ false = le-ltb most_definitions (length (before ++ made)) (omega (arith, length-append before made)) in
    let last : (epoch == last_epoch) ≡ false = grind (arith, nat_tests) in
    let bytes : nat_lt most_script (length (script_of (before ++ made))) ≡ false =
    le-ltb most_script (length (script_of (before ++ made))) (omega (arith, ap (λ (s : List ℕ). length s) (script_append before made), length-append (script_of before) (script_of made)))
    in
    rw (many, last, bytes) refl

pub bytes_both : (before made : List Def) → length (script_of (before ++ made)) ≡ length (script_of before) + length (script_of made)
bytes_both before made = ap (λ (s : List ℕ). length s) (script_append before made) ∙ length-append (script_of before) (script_of made)

-- ---- one definition after the other

-- the commands behind one more definition
pub commands_more : (natives : List (List ℕ)) (before defs : List Def) (i : ℕ) (def : Def) → i < length defs → def ≡ get_or defs i def → Commands natives (before ++ take (i + 1) defs) ≡ defined (Commands natives (before ++ take i defs)) def
commands_more natives before defs i def lt at =
    let more : take (i + 1) defs ≡ take i defs ++ def ∷ [] = take_more defs i def lt ∙ ap (λ (d : Def). take i defs ++ d ∷ []) (sym at) in
    ap (λ (ds : List Def). Commands natives (before ++ ds)) more
    ∙ ap (λ (ds : List Def). Commands natives ds) (sym (append_assoc before (take i defs) (def ∷ [])))
    ∙ fold_push defined (built natives) (before ++ take i defs) def

misfit_step : (place : ℕ) (table : Table) (def : Def) (defs : List Def) (b : Bool) → fits table def ≡ b → misfit_from place table (def ∷ defs) ≡ cond b (misfit_from (place + 1) (defined table def) defs) (Some place)
misfit_step place table def defs b at = ap (λ (x : Bool). cond x (misfit_from (place + 1) (defined table def) defs) (Some place)) at

-- where the definition at a place applies, the first misfit is behind it
pub misfit_more : (natives : List (List ℕ)) (before defs : List Def) (i : ℕ) (def : Def) → i < length defs → def ≡ get_or defs i def → fits (Commands natives (before ++ take i defs)) def ≡ true
    → misfit_from i (Commands natives (before ++ take i defs)) (drop i defs) ≡ misfit_from (i + 1) (Commands natives (before ++ take (i + 1) defs)) (drop (i + 1) defs)
misfit_more natives before defs i def lt at fit =
    let table = Commands natives (before ++ take i defs) in
    let here : drop i defs ≡ def ∷ drop (i + 1) defs = drop_more defs i def lt ∙ ap (λ (d : Def). d ∷ drop (i + 1) defs) (sym at) in
    ap (λ (ds : List Def). misfit_from i table ds) here
    ∙ misfit_step i table def (drop (i + 1) defs) true fit
    ∙ ap (λ (t : Table). misfit_from (i + 1) t (drop (i + 1) defs)) (sym (commands_more natives before defs i def lt at))

-- where it doesn't, it is the first misfit
pub misfit_here : (natives : List (List ℕ)) (before defs : List Def) (i : ℕ) (def : Def) → i < length defs → def ≡ get_or defs i def → fits (Commands natives (before ++ take i defs)) def ≡ false
    → misfit_from i (Commands natives (before ++ take i defs)) (drop i defs) ≡ Some i
misfit_here natives before defs i def lt at misfit =
    let table = Commands natives (before ++ take i defs) in
    let here : drop i defs ≡ def ∷ drop (i + 1) defs = drop_more defs i def lt ∙ ap (λ (d : Def). d ∷ drop (i + 1) defs) (sym at) in
    ap (λ (ds : List Def). misfit_from i table ds) here ∙ misfit_step i table def (drop (i + 1) defs) false misfit
