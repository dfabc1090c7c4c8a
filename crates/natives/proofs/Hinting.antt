-- What hints tell of names.
use Rattle.std.proofs.Common.{◌≡◌, ◌≢◌, ℕ, zero, suc, ◌+◌, ◌<◌, ◌≤◌, Bool, true, false, ◌||◌, ◌&&◌, ◌==◌, nat_lt, if◌then◌else◌, List, [], ◌∷◌, ◌++◌, length, map, get_or, Some, None, refl, sym, ap, ◌∙◌, subst, arith, ⊎_elim, inl, inr, ◌⊎◌}
use Rattle.std.specs.Prelude.{bytes_eq, slice_get, slice_index, slice_set, option_map}
use Rattle.std.proofs.lemmas.Slice.Eq.{bytes_eq-Decides}
use Rattle.std.proofs.lemmas.List.{get_or-set_same, get_or-set_other, map-append, length-map}
use Rattle.std.proofs.lemmas.Option.{slice_get-get_or, slice_get_past, slice_get-map}
use Rattle.std.proofs.lemmas.Bool.Decides.{nat_tests}
use Rattle.std.proofs.lemmas.Bool.{cases_eq}
use Rattle.natives.specs.Names.{has_name}
use Rattle.natives.specs.Hints.{hint_place}
use Rattle.natives.specs.Hinted.{tells, next_hint, AreHinted}

name_step : (x : List ℕ) (xs : List (List ℕ)) (name : List ℕ) (b : Bool) → bytes_eq x name ≡ b → (x ≡ name → ⊥) → has_name xs name ≡ false → has_name (x ∷ xs) name ≡ false
name_step x xs name true e not ih = absurd (not ((bytes_eq-Decides x name).0 e))
name_step x xs name false e not ih = rw e ih

-- a name that stands nowhere is not there
pub nowhere : (names : List (List ℕ)) (name : List ℕ) → ((at : ℕ) → slice_get names at ≡ Some name → ⊥) → has_name names name ≡ false
nowhere [] name not = refl
nowhere (x ∷ xs) name not = name_step x xs name (bytes_eq x name) refl (λ e. not 0 (ap (λ (n : List ℕ). Some n) e)) (nowhere xs name (λ at. not (suc at)))

-- one that stands somewhere is
pub somewhere : (names : List (List ℕ)) (at : ℕ) (other name : List ℕ) → slice_get names at ≡ Some other → bytes_eq other name ≡ true → has_name names name ≡ true
somewhere [] at other name stands same = absurd (cc)
somewhere (x ∷ xs) zero other name stands same =
    let is : Some x ≡ Some other = stands in
    let here : x ≡ other = cc in
    rw (here, same) refl
somewhere (x ∷ xs) (suc at) other name stands same = rw (somewhere xs at other name stands same) (or_true (bytes_eq x name))
  where
    or_true : (b : Bool) → (b || true) ≡ true
    or_true true = refl
    or_true false = refl

told_by : (hint at : ℕ) (b c : Bool) → (hint == at + 1) ≡ b → (hint == 255) ≡ c → (b || c) ≡ true → hint ≢ 255 → hint ≡ at + 1
told_by hint at true c e f told one = grind (arith, nat_tests)
told_by hint at false true e f told one = absurd (one (grind (arith, nat_tests)))
told_by hint at false false e f told one = absurd (cc)

-- a hint that tells of one native tells where it stands
pub told : (hint at : ℕ) → tells hint at ≡ true → hint ≢ 255 → hint ≡ at + 1
told hint at is one = told_by hint at (hint == at + 1) (hint == 255) refl refl is one

-- a name that doesn't stand where its hint tells is not there
pub elsewhere : (hints : List ℕ) (names : List (List ℕ)) (name : List ℕ) (hint : ℕ) → AreHinted hints names → hint ≡ slice_index hints (hint_place name) → hint ≢ 255
    → ((at : ℕ) → hint ≡ at + 1 → slice_get names at ≡ Some name → ⊥) → has_name names name ≡ false
elsewhere hints names name hint hinted is one not =
    nowhere names name (λ at stands. not at (told hint at (ap (λ h. tells h at) is ∙ hinted at name stands) one) stands)

-- nor is one whose hint is 0
pub no_hint : (hints : List ℕ) (names : List (List ℕ)) (name : List ℕ) (hint : ℕ) → AreHinted hints names → hint ≡ slice_index hints (hint_place name) → hint < 1 → has_name names name ≡ false
no_hint hints names name hint hinted is none =
    elsewhere hints names name hint hinted is (λ e. absurd (omega (arith, e, none))) (λ at e stands. absurd (omega (arith, e, none)))

-- nor one where another one stands where the hint tells, or none
pub not_hinted : (hints : List ℕ) (names : List (List ℕ)) (name : List ℕ) (hint at : ℕ) → AreHinted hints names → hint ≡ slice_index hints (hint_place name) → hint ≢ 255
    → hint ≡ at + 1 → slice_get names at ≡ None → has_name names name ≡ false
not_hinted hints names name hint at hinted is one here none =
    elsewhere hints names name hint hinted is one (λ i e stands. let same : i ≡ at = omega (arith, e, here) in let there = subst (λ (n : ℕ). slice_get names n ≡ Some name) same stands in absurd (cc))

pub other_hinted : (hints : List ℕ) (names : List (List ℕ)) (name other : List ℕ) (hint at : ℕ) → AreHinted hints names → hint ≡ slice_index hints (hint_place name) → hint ≢ 255
    → hint ≡ at + 1 → slice_get names at ≡ Some other → bytes_eq other name ≡ false → has_name names name ≡ false
other_hinted hints names name other hint at hinted is one here stands differs =
    elsewhere hints names name hint hinted is one (λ i e there.
    let same : i ≡ at = omega (arith, e, here) in
    let found = subst (λ (n : ℕ). slice_get names n ≡ Some name) same there in
    let equal : other ≡ name = cc in
    let is_equal = (bytes_eq-Decides other name).1 equal in
    absurd (cc))

last_or : (names : List (List ℕ)) (n : List ℕ) (at : ℕ) (name : List ℕ) → slice_get (names ++ n ∷ []) at ≡ Some name → (slice_get names at ≡ Some name) ⊎ ((at ≡ length names) × (n ≡ name))
last_or [] n zero name e = let f : Some n ≡ Some name = e in let same : n ≡ name = cc in inr (refl, same)
last_or [] n (suc at) name e = absurd (cc)
last_or (x ∷ xs) n zero name e = inl e
last_or (x ∷ xs) n (suc at) name e = ⊎_elim (λ f. inl f) (λ f. inr (ap (λ k. suc k) f.0, f.1)) (last_or xs n at name e)

again_by : (before count at : ℕ) (b : Bool) → (before == 0) ≡ b → tells before at ≡ true → tells (if b && nat_lt count 254 then count + 1 else 255) at ≡ true
again_by before count at true none is = let zero_is : before ≡ 0 = grind (arith, nat_tests) in let e = told before at is (λ f. absurd (omega (arith, f, zero_is))) in absurd (omega (arith, e, zero_is))
again_by before count at false none is = or_true (255 == at + 1)
  where
    or_true : (b : Bool) → (b || true) ≡ true
    or_true true = refl
    or_true false = refl

fresh_by : (before count : ℕ) (b : Bool) → tells (if b then count + 1 else 255) count ≡ true
fresh_by before count true = let same : (count + 1 == count + 1) ≡ true = grind (arith, nat_tests) in rw same refl
fresh_by before count false = or_true (255 == count + 1)
  where
    or_true : (b : Bool) → (b || true) ≡ true
    or_true true = refl
    or_true false = refl

placed_by : (hints : List ℕ) (names : List (List ℕ)) (n name : List ℕ) (at : ℕ) → hint_place n < length hints → tells (slice_index hints (hint_place name)) at ≡ true
    → (hint_place name ≡ hint_place n) ⊎ (hint_place name ≢ hint_place n)
    → tells (slice_index (slice_set hints (hint_place n) (next_hint (slice_index hints (hint_place n)) (length names))) (hint_place name)) at ≡ true
placed_by hints names n name at within is (inl same) =
    let before = slice_index hints (hint_place n) in
    ap (λ h. tells h at) (ap (λ p. slice_index (slice_set hints (hint_place n) (next_hint before (length names))) p) same ∙ get_or-set_same hints (hint_place n) (next_hint before (length names)) 0 within)
    ∙ again_by before (length names) at (before == 0) refl (ap (λ p. tells (slice_index hints p) at) (sym same) ∙ is)
placed_by hints names n name at within is (inr other) =
    let before = slice_index hints (hint_place n) in
    ap (λ h. tells h at) (get_or-set_other hints (hint_place n) (hint_place name) (next_hint before (length names)) 0 other) ∙ is

-- one native more
pub one_hinted : (hints : List ℕ) (names : List (List ℕ)) (n : List ℕ) → hint_place n < length hints → AreHinted hints names
    → AreHinted (slice_set hints (hint_place n) (next_hint (slice_index hints (hint_place n)) (length names))) (names ++ n ∷ [])
one_hinted hints names n within hinted = λ at name stands.
    let before = slice_index hints (hint_place n) in
    ⊎_elim (λ old. placed_by hints names n name at within (hinted at name old) (cases_eq (hint_place name) (hint_place n)))
    (λ new.
    ap (λ p. tells (slice_index (slice_set hints (hint_place n) (next_hint before (length names))) p) at) (ap hint_place (sym new.1))
    ∙ (ap (λ h. tells h at) (get_or-set_same hints (hint_place n) (next_hint before (length names)) 0 within)
    ∙ (ap (λ i. tells (next_hint before (length names)) i) new.0 ∙ fresh_by before (length names) (before == 0 && nat_lt (length names) 254))))
    (last_or names n at name stands)

-- a native more, and its hint
pub added : {A : Type 0} (f : A → List ℕ) (xs after : List A) (x : A) (hints : List ℕ) (place hint : ℕ) → length hints ≡ 256 → place ≡ hint_place (f x) → place < 256
    → hint ≡ next_hint (slice_index hints place) (length xs) → after ≡ xs ++ x ∷ [] → AreHinted hints (map f xs) → AreHinted (slice_set hints place hint) (map f after)
added f xs after x hints place hint size here within next is hinted =
    let inside : hint_place (f x) < length hints = omega (arith, size, here, within) in
    let all : map f after ≡ map f xs ++ f x ∷ [] = ap (map f) is ∙ map-append f xs (x ∷ []) in
    let count : length (map f xs) ≡ length xs = length-map xs f in
    let set : slice_set hints (hint_place (f x)) (next_hint (slice_index hints (hint_place (f x))) (length (map f xs))) ≡ slice_set hints place hint =
    ap (λ n. slice_set hints (hint_place (f x)) (next_hint (slice_index hints (hint_place (f x))) n)) count
    ∙ (ap (λ p. slice_set hints p (next_hint (slice_index hints p) (length xs))) (sym here) ∙ ap (slice_set hints place) (sym next)) in
    subst (λ (hs : List ℕ). AreHinted hs (map f after)) set
    (subst (λ (ns : List (List ℕ)). AreHinted (slice_set hints (hint_place (f x)) (next_hint (slice_index hints (hint_place (f x))) (length (map f xs)))) ns) (sym all)
    (one_hinted hints (map f xs) (f x) inside hinted))

-- the same natives
pub kept : {A : Type 0} (f : A → List ℕ) (xs after : List A) (hints : List ℕ) → after ≡ xs → AreHinted hints (map f xs) → AreHinted hints (map f after)
kept {A = A} f xs after hints is hinted = subst (λ (ys : List A). AreHinted hints (map f ys)) (sym is) hinted

-- what stands at a place
pub stands : {A : Type 0} (f : A → List ℕ) (xs : List A) (at : ℕ) (x d : A) → true ≡ nat_lt at (length xs) → x ≡ get_or xs at d → slice_get (map f xs) at ≡ Some (f x)
stands f xs at x d within is =
    let lt : at < length xs = grind (arith, nat_tests) in
    slice_get-map f xs at ∙ ap (option_map f) (slice_get-get_or xs at d lt ∙ ap (λ y. Some y) (sym is))

pub stands_none : {A : Type 0} (f : A → List ℕ) (xs : List A) (at : ℕ) → false ≡ nat_lt at (length xs) → slice_get (map f xs) at ≡ None
stands_none f xs at past =
    let le : length xs ≤ at = grind (arith, nat_tests) in
    slice_get-map f xs at ∙ ap (option_map f) (slice_get_past xs at le)
