-- What the base scalars are after keeps, and after keeps were taken back.
use Rattle.std.proofs.Common.{◌≡◌, ◌≢◌, ◌≤◌, ℕ, zero, suc, Bool, true, false, List, [], ◌∷◌, ◌++◌, length, take, refl, sym, ap, ◌∙◌, cond, is_some, arith}
use Rattle.std.specs.Prelude.{Option, Some, None, fold, if◌then◌else◌}
use Rattle.std.specs.Option.{option_map}
use Rattle.std.specs.Ordering.{nat_cmp}
use Rattle.std.specs.Cmp.Lexicographic.{slice_cmp, nat_list_cmp_total}
use Rattle.std.specs.FinMap as map
use Rattle.std.specs.FinMap.{get-empty, get-insert, get-remove}
use Rattle.std.proofs.Math.Seq.{take-append_seam}
use Rattle.tcl_frame.specs.declared.base.Base.{Base}
use Rattle.tcl_frame.specs.declared.keep.Keep.{Keep}
use Rattle.tcl_frame.specs.declared.variable.Variable.TheVariants.{Scalar}
use Rattle.tcl_frame.specs.Names.{Whole}
use Rattle.tcl_frame.specs.Variables.{Scalars}
use Rattle.tcl_frame.specs.Meaning.{Value, whole, value_or_nothing, found}
use Rattle.tcl_frame.specs.Stack.{Stack, Kept}
use Rattle.tcl_frame.specs.Frames.{fresh, found_in}
use Rattle.txt_core.specs.Keyed.{given_back}
use Rattle.tcl_frame.specs.Base.{base_of, as_variables, at_base, IsAtBase, cleared, kept, unkept}
use Rattle.tcl_frame.specs.Globals.{Bases, values_of, keeps_of, value_before, KnowBefore}
use Rattle.tcl_frame.proofs.Bases.{same, alike, value_of, mapped_first, values_get, as_get}
use Rattle.tcl_frame.proofs.Changes.{get_put, get_put_other, unlike}
use Rattle.txt_core.proofs.Undoing.{put_and_taken, put_and_put}

fold_last : {A B : Type 0} (f : B → A → B) (z : B) (xs : List A) (x : A) → fold f z (xs ++ x ∷ []) ≡ f (fold f z xs) x
fold_last f z [] x = refl
fold_last f z (y ∷ ys) x = fold_last f (f z y) ys x

-- the base scalars after further keeps
abbrev after : Scalars → List Kept → Scalars
after base keeps = fold (λ base keep. map.insert base keep.0 keep.1) base keeps

-- the last keep sets its name
pub base_last : (keeps : List Kept) (name value : List ℕ) → base_of (keeps ++ (name, value) ∷ []) ≡ map.insert (base_of keeps) name value
base_last keeps name value = fold_last (λ base keep. map.insert base keep.0 keep.1) map.empty keeps (name, value)

pub keeps_last : (keeps : List Keep) (keep : Keep) → keeps_of (keeps ++ keep ∷ []) ≡ keeps_of keeps ++ (keep.name, keep.value) ∷ []
keeps_last [] keep = refl
keeps_last (first ∷ keeps) keep = ap (λ rest. (first.name, first.value) ∷ rest) (keeps_last keeps keep)

know_more : (base : Scalars) (keeps : List Keep) (keep : Keep) → KnowBefore base keeps → value_before keep.before ≡ map.get (after base (keeps_of keeps)) keep.name
    → KnowBefore base (keeps ++ keep ∷ [])
know_more base [] keep known e = (e, tt)
know_more base (first ∷ keeps) keep known e = (known.0, know_more (map.insert base first.name first.value) keeps keep known.1 e)

-- one more keep that knows what was there before it
pub know_last : (keeps : List Keep) (keep : Keep) → KnowBefore map.empty keeps → value_before keep.before ≡ map.get (base_of (keeps_of keeps)) keep.name
    → KnowBefore map.empty (keeps ++ keep ∷ [])
know_last keeps keep known e = know_more map.empty keeps keep known e

know_fewer : (base : Scalars) (keeps : List Keep) (keep : Keep) → KnowBefore base (keeps ++ keep ∷ [])
    → KnowBefore base keeps × (value_before keep.before ≡ map.get (after base (keeps_of keeps)) keep.name)
know_fewer base [] keep known = (tt, known.0)
know_fewer base (first ∷ keeps) keep known =
    let rest = know_fewer (map.insert base first.name first.value) keeps keep known.1 in
    ((known.0, rest.0), rest.1)

pub know_front : (keeps : List Keep) (keep : Keep) → KnowBefore map.empty (keeps ++ keep ∷ [])
    → KnowBefore map.empty keeps × (value_before keep.before ≡ map.get (base_of (keeps_of keeps)) keep.name)
know_front keeps keep known = know_fewer map.empty keeps keep known

-- the base values after a base scalar was put
pub values_put : (bases : Bases) (name : List ℕ) (base : Base) → values_of (map.insert bases name base) ≡ map.insert (values_of bases) name base.value
values_put bases name base = alike _ _ (λ q.
    values_get (map.insert bases name base) q
    ∙ ap value_of (get-insert nat_list_cmp_total bases name base q)
    ∙ sym (mapped_first (same q name) base (map.get bases q))
    ∙ ap (cond (same q name) (Some base.value)) (sym (values_get bases q))
    ∙ sym (get-insert nat_list_cmp_total (values_of bases) name base.value q))

none_first : (b : Bool) (o : Option Base) → value_of (cond b None o) ≡ cond b None (value_of o)
none_first true o = refl
none_first false o = refl

values_taken : (bases : Bases) (name : List ℕ) → values_of (map.remove bases name) ≡ map.remove (values_of bases) name
values_taken bases name = alike _ _ (λ q.
    values_get (map.remove bases name) q
    ∙ ap value_of (get-remove nat_list_cmp_total bases name q)
    ∙ none_first (same q name) (map.get bases q)
    ∙ ap (cond (same q name) None) (sym (values_get bases q))
    ∙ sym (get-remove nat_list_cmp_total (values_of bases) name q))

value_some : (o : Option Base) → is_some o ≡ is_some (value_of o)
value_some None = refl
value_some (Some base) = refl

-- the base values after a name was given back what it had before a keep
pub values_given : (bases : Bases) (base : Scalars) (name value : List ℕ) (before : Option Base) → values_of bases ≡ map.insert base name value
    → value_before before ≡ map.get base name → values_of (given_back bases name before) ≡ base
values_given bases base name value None is had =
    values_taken bases name ∙ ap (λ m. map.remove m name) is ∙ put_and_taken base name value (sym had)
values_given bases base name value (Some was) is had =
    let there : is_some (map.get bases name) ≡ true =
    value_some (map.get bases name) ∙ ap is_some (sym (values_get bases name) ∙ ap (λ m. map.get m name) is ∙ get_put base name value) in
    ap (λ c. values_of (if c then map.insert bases name was else bases)) there
    ∙ values_put bases name was
    ∙ ap (λ m. map.insert m name was.value) is
    ∙ put_and_put base name value was.value (sym had)

-- ---- laws

pub fresh_at_base : IsAtBase fresh
fresh_at_base =
    (alike _ _ (λ q. get-empty (slice_cmp nat_cmp) q ∙ sym (as_get map.empty q ∙ ap (option_map Scalar) (get-empty (slice_cmp nat_cmp) q))), refl)

pub still : (stack : Stack) → IsAtBase stack → cleared stack ≡ stack
still stack is =
    ap (λ global. record { global = global; above = []; keeps = stack.keeps }) (sym is.0)
    ∙ ap (λ above. record { global = stack.global; above = above; keeps = stack.keeps }) (sym is.1)

whole_scalar : (o : Option (List ℕ)) → whole (option_map Scalar o) ≡ value_or_nothing o
whole_scalar None = refl
whole_scalar (Some value) = refl

pub base_found : (scalars : Scalars) (name : List ℕ) → found (as_variables scalars) (Whole name) ≡ value_or_nothing (map.get scalars name)
base_found scalars name = ap whole (as_get scalars name) ∙ whole_scalar (map.get scalars name)

pub kept_found : (stack : Stack) (name value : List ℕ) → found_in (kept stack name value) (Whole name) ≡ Value value
kept_found stack name value =
    base_found (base_of (stack.keeps ++ (name, value) ∷ [])) name
    ∙ ap (λ base. value_or_nothing (map.get base name)) (base_last stack.keeps name value)
    ∙ ap value_or_nothing (get_put (base_of stack.keeps) name value)

pub kept_apart : (stack : Stack) (name other value : List ℕ) → other ≢ name → found_in (kept stack name value) (Whole other) ≡ found_in (cleared stack) (Whole other)
kept_apart stack name other value n =
    base_found (base_of (stack.keeps ++ (name, value) ∷ [])) other
    ∙ ap (λ base. value_or_nothing (map.get base other)) (base_last stack.keeps name value)
    ∙ ap value_or_nothing (get_put_other (base_of stack.keeps) name value other (unlike other name n))
    ∙ sym (base_found (base_of stack.keeps) other)

pub taken_back : (stack : Stack) (name value : List ℕ) → unkept (kept stack name value) (length stack.keeps) ≡ cleared stack
taken_back stack name value = ap at_base (take-append_seam stack.keeps ((name, value) ∷ []))

-- ---- the first keeps

pub take_fewer : {A : Type 0} (m n : ℕ) (xs : List A) → m ≤ n → take m (take n xs) ≡ take m xs
take_fewer zero n xs h = refl
take_fewer (suc m) zero xs h = absurd (omega arith)
take_fewer (suc m) (suc n) [] h = refl
take_fewer (suc m) (suc n) (x ∷ xs) h = ap (λ ys. x ∷ ys) (take_fewer m n xs (omega arith))

pub take_whole : {A : Type 0} (n : ℕ) (xs : List A) → length xs ≤ n → take n xs ≡ xs
take_whole zero [] h = refl
take_whole (suc n) [] h = refl
take_whole zero (x ∷ xs) h = absurd (omega arith)
take_whole (suc n) (x ∷ xs) h = ap (λ ys. x ∷ ys) (take_whole n xs (omega arith))

pub keeps_length : (keeps : List Keep) → length (keeps_of keeps) ≡ length keeps
keeps_length [] = refl
keeps_length (keep ∷ keeps) = omega (arith, keeps_length keeps)
