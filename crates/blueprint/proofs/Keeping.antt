-- What a blueprint keeps is right after a publication and after a save.
use Rattle.std.proofs.Common.{◌≡◌, ◌≢◌, ◌≤◌, ℕ, ◌+◌, List, [], ◌∷◌, ◌++◌, length, drop, None, append_assoc, length-append, refl, sym, ap, ◌∙◌, subst, arith}
use Rattle.std.proofs.lemmas.Bool.Decides.{nat_tests}
use Rattle.std.proofs.lemmas.List.{append-nil}
use Rattle.cmd_table.specs.declared.definition.Def.{Def}
use Rattle.cmd_table.specs.Table.{names_of}
use Rattle.cmd_table.specs.Commands.{Commands}
use Rattle.blueprint.specs.declared.reply.Published.{Published}
use Rattle.blueprint.specs.declared.reply.Published.TheVariants as replies
use Rattle.blueprint.specs.Scripts.{script_of}
use Rattle.blueprint.specs.States.{State, first_misfit, most_definitions, most_script, last_epoch, Allowed}
use Rattle.blueprint.specs.Publishing.{answer, publish_answer, with_published, with_saved, Answers, Publishes}
use Rattle.blueprint.specs.Looking.{since}
use Rattle.blueprint.specs.Kept.{same_name, is_there, all_of, state_of, Slots, AreCommands, Keeps, IsRefused}
use Rattle.blueprint.proofs.Rows.{defs_of, count_of, all_more, published_state, saved_state, between, since_place}
use Rattle.std.specs.List.{list_any}
use Rattle.blueprint.proofs.Tables.{among}
use Rattle.blueprint.proofs.Misfits.{fits_both, refused, fit}

-- definitions that apply and are within the limits are an allowed state
pub allowed_of : (natives : List (List ℕ)) (base : ℕ) (saved : List Def) (later : List (List Def)) → first_misfit (Commands natives []) (saved ++ all_of later) ≡ None
    → length (saved ++ all_of later) ≤ most_definitions → length (script_of (saved ++ all_of later)) ≤ most_script → base + length later ≤ last_epoch → Allowed (state_of natives base saved later)
allowed_of natives base saved later applies few short last =
    let defs = defs_of base (saved ∷ later) in
    record {
      applies = ap (λ (ds : List Def). first_misfit (Commands natives []) ds) defs ∙ applies;
      count = omega (arith, count_of base (saved ∷ later), few);
      bytes = omega (arith, ap (λ (ds : List Def). length (script_of ds)) defs, short);
      epochs = between base base (base + length later) (saved ∷ later) (omega arith) (omega arith) (omega arith);
      last = last;
    }

one_behind : (saved made : List Def) (later : List (List Def)) → saved ++ all_of (later ++ made ∷ []) ≡ (saved ++ all_of later) ++ made
one_behind saved made later = ap (λ (ds : List Def). saved ++ ds) (all_more later made) ∙ sym (append_assoc saved (all_of later) made)

applies_before : (natives : List (List ℕ)) (base : ℕ) (saved : List Def) (later : List (List Def)) → Allowed (state_of natives base saved later) → first_misfit (Commands natives []) (saved ++ all_of later) ≡ None
applies_before natives base saved later ok = ap (λ (ds : List Def). first_misfit (Commands natives []) ds) (sym (defs_of base (saved ∷ later))) ∙ ok.applies

below : (n most : ℕ) → n ≤ most → n ≢ most → n + 1 ≤ most
below n most le apart = grind (arith, nat_tests)

-- after a publication
pub keeps_published : (natives built : List (List ℕ)) (old new : Slots) (base : ℕ) (saved made : List Def) (later all : List (List Def)) (count size number bytes epoch now : ℕ) → Keeps natives built old base saved later count size
    → all ≡ later ++ made ∷ [] → epoch ≡ base + length later → answer natives epoch (saved ++ all_of later) made ≡ replies.Done now
    → AreCommands new (Commands natives ((saved ++ all_of later) ++ made)) → number ≡ length ((saved ++ all_of later) ++ made) → bytes ≡ length (script_of ((saved ++ all_of later) ++ made))
    → Keeps natives built new base saved all number bytes
keeps_published natives built old new base saved made later all count size number bytes epoch now k is at done names counted sized =
    let before = saved ++ all_of later in
    let f = fit (first_misfit (Commands natives before) made) epoch now (before ++ made) done in
    let defs : saved ++ all_of all ≡ before ++ made = ap (λ (ls : List (List Def)). saved ++ all_of ls) is ∙ one_behind saved made later in
    let fitting : first_misfit (Commands natives []) (before ++ made) ≡ None = fits_both 0 0 (Commands natives []) before made (applies_before natives base saved later k.allowed) f.applies in
    let many : length all ≡ length later + 1 = ap (λ (ls : List (List Def)). length ls) is ∙ length-append later (made ∷ []) in
    let last : base + length later ≤ last_epoch = k.allowed.last in
    let goes : base + length later ≢ last_epoch = λ e. f.goes_on (at ∙ e) in
    record {
      built_ins = k.built_ins;
      names = subst (λ (ds : List Def). AreCommands new (Commands natives ds)) (sym defs) names;
      allowed =
          allowed_of natives base saved all
          (ap (λ (ds : List Def). first_misfit (Commands natives []) ds) defs ∙ fitting)
          (omega (arith, ap (λ (ds : List Def). length ds) defs, f.few))
          (omega (arith, ap (λ (ds : List Def). length (script_of ds)) defs, f.short))
          (omega (arith, below (base + length later) last_epoch last goes, many));
      counted = counted ∙ ap (λ (ds : List Def). length ds) (sym defs);
      sized = sized ∙ ap (λ (ds : List Def). length (script_of ds)) (sym defs);
      few = omega (arith, counted, f.few);
      short = omega (arith, sized, f.short);
    }

-- after a save
pub keeps_saved : (natives built : List (List ℕ)) (new : Slots) (made : List Def) (none : List (List Def)) (number bytes epoch now : ℕ) → built ≡ names_of (Commands natives [])
    → none ≡ [] → now ≡ epoch + 1 → epoch ≤ last_epoch → answer natives epoch [] made ≡ replies.Done now → AreCommands new (Commands natives made) → number ≡ length made → bytes ≡ length (script_of made)
    → Keeps natives built new now made none number bytes
keeps_saved natives built new made none number bytes epoch now built_ins empty at most done names counted sized =
    let f = fit (first_misfit (Commands natives []) made) epoch now made done in
    let defs : made ++ all_of none ≡ made = ap (λ (ls : List (List Def)). made ++ all_of ls) empty ∙ append-nil made in
    let goes : epoch ≢ last_epoch = f.goes_on in
    record {
      built_ins = built_ins;
      names = subst (λ (ds : List Def). AreCommands new (Commands natives ds)) (sym defs) names;
      allowed =
          allowed_of natives now made none
          (ap (λ (ds : List Def). first_misfit (Commands natives []) ds) defs ∙ f.applies)
          (omega (arith, ap (λ (ds : List Def). length ds) defs, f.few))
          (omega (arith, ap (λ (ds : List Def). length (script_of ds)) defs, f.short))
          (omega (arith, below epoch last_epoch most goes, at, ap (λ (ls : List (List Def)). length ls) empty));
      counted = counted ∙ ap (λ (ds : List Def). length ds) (sym defs);
      sized = sized ∙ ap (λ (ds : List Def). length (script_of ds)) (sym defs);
      few = omega (arith, counted, f.few);
      short = omega (arith, sized, f.short);
    }

-- names that are the same ones
pub keeps_names : (natives built : List (List ℕ)) (old new : Slots) (base : ℕ) (saved : List Def) (later all : List (List Def)) (count size : ℕ) → Keeps natives built old base saved later count size
    → all ≡ later → AreCommands new (Commands natives (saved ++ all_of later)) → Keeps natives built new base saved all count size
keeps_names natives built old new base saved later all count size k is names =
    subst (λ (ls : List (List Def)). Keeps natives built new base saved ls count size) (sym is)
    (record { built_ins = k.built_ins; names = names; allowed = k.allowed; counted = k.counted; sized = k.sized; few = k.few; short = k.short })

-- ---- answers

answer_at : (natives : List (List ℕ)) (base : ℕ) (saved made : List Def) (later : List (List Def)) → publish_answer (state_of natives base saved later) made ≡ answer natives (base + length later) (saved ++ all_of later) made
answer_at natives base saved made later = ap (λ (ds : List Def). answer natives (base + length later) ds made) (defs_of base (saved ∷ later))

-- a publication that is done
pub publishes : (natives : List (List ℕ)) (base : ℕ) (saved made : List Def) (later all : List (List Def)) (state : State) (epoch now : ℕ) → state_of natives base saved later ≡ state
    → all ≡ later ++ made ∷ [] → epoch ≡ base + length later → answer natives epoch (saved ++ all_of later) made ≡ replies.Done now → Publishes state made (replies.Done now) (state_of natives base saved all)
publishes natives base saved made later all state epoch now is more at done =
    subst (λ (s : State). Publishes s made (replies.Done now) (state_of natives base saved all)) is (
      sym (answer_at natives base saved made later ∙ ap (λ (n : ℕ). answer natives n (saved ++ all_of later) made) (sym at) ∙ done),
      ap (λ (ls : List (List Def)). state_of natives base saved ls) more ∙ published_state natives base saved made later,
    )

-- one that is refused
pub publish_refused : (natives : List (List ℕ)) (base : ℕ) (saved made : List Def) (later all : List (List Def)) (state : State) (epoch : ℕ) (refusal : Published) → state_of natives base saved later ≡ state
    → all ≡ later → epoch ≡ base + length later → IsRefused (answer natives epoch (saved ++ all_of later) made) refusal → Publishes state made refusal (state_of natives base saved all)
publish_refused natives base saved made later all state epoch refusal is same at h =
    let expected : answer natives epoch (saved ++ all_of later) made ≡ publish_answer (state_of natives base saved later) made =
    ap (λ (n : ℕ). answer natives n (saved ++ all_of later) made) at ∙ sym (answer_at natives base saved made later)
    in
    let here : Publishes (state_of natives base saved later) made refusal (state_of natives base saved later) =
    refused (state_of natives base saved later) (with_published (state_of natives base saved later) made) (publish_answer (state_of natives base saved later) made) refusal (subst (λ (p : Published). IsRefused p refusal) expected h)
    in
    subst (λ (s : State). Publishes s made refusal (state_of natives base saved all)) is
    (subst (λ (ls : List (List Def)). Publishes (state_of natives base saved later) made refusal (state_of natives base saved ls)) (sym same) here)

-- a save that is done
pub saves : (natives : List (List ℕ)) (base : ℕ) (saved made : List Def) (later none : List (List Def)) (state : State) (epoch now : ℕ) → state_of natives base saved later ≡ state
    → none ≡ [] → epoch ≡ base + length later → now ≡ epoch + 1 → answer natives epoch [] made ≡ replies.Done now
    → Answers state (answer state.natives state.epoch [] made) (with_saved state made) (replies.Done now) (state_of natives now made none)
saves natives base saved made later none state epoch now is empty at next done =
    let here : answer natives (base + length later) [] made ≡ replies.Done now = ap (λ (n : ℕ). answer natives n [] made) (sym at) ∙ done in
    let epoch_is : now ≡ base + length later + 1 = omega (arith, at, next) in
    subst (λ (s : State). Answers s (answer s.natives s.epoch [] made) (with_saved s made) (replies.Done now) (state_of natives now made none)) is (
      sym here,
      ap (λ (ls : List (List Def)). state_of natives now made ls) empty ∙ saved_state natives (state_of natives base saved later) now made refl epoch_is,
    )

-- one that is refused
pub save_refused : (natives : List (List ℕ)) (base : ℕ) (saved made : List Def) (later : List (List Def)) (state : State) (epoch : ℕ) (refusal : Published) → state_of natives base saved later ≡ state
    → epoch ≡ base + length later → IsRefused (answer natives epoch [] made) refusal → Answers state (answer state.natives state.epoch [] made) (with_saved state made) refusal state
save_refused natives base saved made later state epoch refusal is at h =
    let expected : answer natives epoch [] made ≡ answer state.natives state.epoch [] made =
    ap (λ (n : ℕ). answer natives n [] made) at ∙ ap (λ (s : State). answer s.natives s.epoch [] made) is
    in
    refused state (with_saved state made) (answer state.natives state.epoch [] made) refusal (subst (λ (p : Published). IsRefused p refusal) expected h)

-- what was added since an epoch
pub since_state : (natives : List (List ℕ)) (base : ℕ) (saved : List Def) (later lists : List (List Def)) (state : State) (epoch place : ℕ) (none all : List Def) → state_of natives base saved later ≡ state
    → epoch ≡ base + place → lists ≡ drop place later → none ≡ [] → all ≡ none ++ all_of lists → all ≡ since epoch state.rows
since_state natives base saved later lists state epoch place none all is at behind empty made =
    made
    ∙ ap (λ (ds : List Def). ds ++ all_of lists) empty
    ∙ ap (λ (ls : List (List Def)). all_of ls) behind
    ∙ sym (since_place place base epoch saved later at)
    ∙ ap (λ (s : State). since epoch s.rows) is

-- what a new blueprint keeps
pub keeps_new : (natives built : List (List ℕ)) (slots : Slots) (saved : List Def) (later : List (List Def)) → built ≡ names_of (Commands natives []) → saved ≡ [] → later ≡ [] → AreCommands slots (Commands natives [])
    → Keeps natives built slots 0 saved later 0 0
keeps_new natives built slots saved later built_ins one more names =
    subst (λ (ds : List Def). Keeps natives built slots 0 ds later 0 0) (sym one)
    (subst (λ (ls : List (List Def)). Keeps natives built slots 0 [] ls 0 0) (sym more)
    (record { built_ins = built_ins; names = names; allowed = allowed_of natives 0 [] [] refl (omega arith) (omega arith) (omega arith); counted = refl; sized = refl; few = omega arith; short = omega arith }))

-- the names of a new blueprint
pub names_new : (natives names : List (List ℕ)) (slots : Slots) → names ≡ names_of (Commands natives []) → ((q : List ℕ) → is_there slots q ≡ list_any (λ (name : List ℕ). same_name name q) names) → AreCommands slots (Commands natives [])
names_new natives names slots same h q = h q ∙ ap (λ (ns : List (List ℕ)). list_any (λ (name : List ℕ). same_name name q) ns) same ∙ among (Commands natives []) q
