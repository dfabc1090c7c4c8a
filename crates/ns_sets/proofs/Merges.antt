-- What a merge makes of fields.
use Rattle.std.proofs.Common.{◌≡◌, ℕ, ◌+◌, Bool, true, false, cond, ◌||◌, List, [], ◌∷◌, ◌++◌, Option, Some, ap, sym, ◌∙◌, refl, arith, append_assoc}
use Rattle.std.proofs.lemmas.List.{append-nil}
use Rattle.std.proofs.lemmas.List.Folds.{find-append, list_any-append}
use Rattle.std.proofs.lemmas.List.Sums.{sum_by-append, sum_by-cons}
use Rattle.std.proofs.lemmas.Slice.Eq.{bytes_eq-Decides}
use Rattle.std.specs.List.{find, list_any, count_by}
use Rattle.std.specs.Option.{option_or}
use Rattle.ns_sets.specs.Fields.{Field, exact, has_key, holds, with_field, merged}
use Rattle.ns_sets.specs.Merging.{IsMerge, times_of}

settled_at : {X : Type 0} (b rest : Bool) (x : X) (o y z : Option X) → (rest ≡ true → option_or o y ≡ option_or o z) → (b || rest) ≡ true → option_or (cond b (Some x) o) y ≡ option_or (cond b (Some x) o) z
settled_at true rest x o y z held has = refl
settled_at false rest x o y z held has = held has

-- where an element passes, a search doesn't look at what stands behind the list
settled : {X : Type 0} (p : X → Bool) (xs : List X) (y z : Option X) → list_any p xs ≡ true → option_or (find p xs) y ≡ option_or (find p xs) z
settled p [] y z has = cc
settled p (x ∷ xs) y z has = settled_at (p x) (list_any p xs) x (find p xs) y z (settled p xs y z) has

uncounted_at : (b rest : Bool) (n : ℕ) → (rest ≡ false → n ≡ 0) → (b || rest) ≡ false → cond b 1 0 + n ≡ 0
uncounted_at true rest n held none = cc
uncounted_at false rest n held none = let zero : n ≡ 0 = held none in omega arith

-- where no element passes, none is counted
uncounted : {X : Type 0} (p : X → Bool) (xs : List X) → list_any p xs ≡ false → count_by p xs ≡ 0
uncounted p [] none = refl
uncounted p (x ∷ xs) none =
    sum_by-cons (λ y. cond (p y) 1 0) x xs ∙ uncounted_at (p x) (list_any p xs) (count_by p xs) (uncounted p xs) none

-- the high fields stand in front
front_at : (b : Bool) (high low : List Field) (field : Field) → ((h : List Field) → (behind : List Field) × (merged h low ≡ h ++ behind)) → (behind : List Field) × (merged (cond b high (with_field high field.0 field.1)) low ≡ high ++ behind)
front_at true high low field step = step high
front_at false high low field step =
    let rest = step (with_field high field.0 field.1) in
    ((field.0, field.1) ∷ rest.0, rest.1 ∙ append_assoc high ((field.0, field.1) ∷ []) rest.0)

front : (high low : List Field) → (behind : List Field) × (merged high low ≡ high ++ behind)
front high [] = ([], sym (append-nil high))
front high (field ∷ low) = front_at (holds exact high field.0) high low field (λ h. front h low)

-- a key that a field has is held where the field's key is
held_too : (high : List Field) (field : Field) (key : List ℕ) (b : Bool) → holds exact high field.0 ≡ b → exact field.0 key ≡ true → holds exact high key ≡ b
held_too high field key b is e = sym (ap (λ k. holds exact high k) ((bytes_eq-Decides field.0 key).0 e)) ∙ is

first_held : (e : Bool) (high low : List Field) (field : Field) (key : List ℕ) → (e ≡ true → holds exact high key ≡ true) → option_or (find (has_key exact key) high) (find (has_key exact key) low) ≡ option_or (find (has_key exact key) high) (cond e (Some field) (find (has_key exact key) low))
first_held true high low field key has = settled (has_key exact key) high _ _ (has refl)
first_held false high low field key has = refl

first_at : (b : Bool) (high low : List Field) (field : Field) (key : List ℕ) → holds exact high field.0 ≡ b → ((h : List Field) → find (has_key exact key) (merged h low) ≡ find (has_key exact key) (h ++ low)) → find (has_key exact key) (merged (cond b high (with_field high field.0 field.1)) low) ≡ find (has_key exact key) (high ++ field ∷ low)
first_at true high low field key is step =
    ((step high ∙ find-append (has_key exact key) high low)
    ∙ first_held (exact field.0 key) high low field key (held_too high field key true is))
    ∙ sym (find-append (has_key exact key) high (field ∷ low))
first_at false high low field key is step =
    step (with_field high field.0 field.1) ∙ ap (λ fields. find (has_key exact key) fields) (append_assoc high ((field.0, field.1) ∷ []) low)

-- the first field of a key
first : (high low : List Field) (key : List ℕ) → find (has_key exact key) (merged high low) ≡ find (has_key exact key) (high ++ low)
first high [] key = ap (λ fields. find (has_key exact key) fields) (sym (append-nil high))
first high (field ∷ low) key = first_at (holds exact high field.0) high low field key refl (λ h. first h low key)

alone : (h : Bool) (n : ℕ) → (h ≡ false → n ≡ 0) → n ≡ cond h n 0
alone true n none = refl
alone false n none = none refl

times_held : (h e l : Bool) (n : ℕ) → (e ≡ true → h ≡ true) → cond h n (cond l 1 0) ≡ cond h n (cond (e || l) 1 0)
times_held true e l n has = refl
times_held false true l n has = let no = has refl in cc
times_held false false l n has = refl

times_new : (h e l : Bool) (n : ℕ) → (e ≡ true → h ≡ false) → (h ≡ false → n ≡ 0) → cond (h || (e || false)) (n + (0 + cond e 1 0)) (cond l 1 0) ≡ cond h n (cond (e || l) 1 0)
times_new true true l n has none = let no = has refl in cc
times_new true false l n has none = omega arith
times_new false true l n has none = let zero : n ≡ 0 = none refl in omega arith
times_new false false l n has none = refl

times_at : (b : Bool) (high low : List Field) (field : Field) (key : List ℕ) → holds exact high field.0 ≡ b → ((h : List Field) → times_of (merged h low) key ≡ cond (holds exact h key) (times_of h key) (cond (holds exact low key) 1 0)) → times_of (merged (cond b high (with_field high field.0 field.1)) low) key ≡ cond (holds exact high key) (times_of high key) (cond (holds exact (field ∷ low) key) 1 0)
times_at true high low field key is step =
    step high ∙ times_held (holds exact high key) (exact field.0 key) (holds exact low key) (times_of high key) (held_too high field key true is)
times_at false high low field key is step =
    ((step (with_field high field.0 field.1)
    ∙ ap (λ b. cond b (times_of (with_field high field.0 field.1) key) (cond (holds exact low key) 1 0)) (list_any-append (has_key exact key) high ((field.0, field.1) ∷ [])))
    ∙ ap (λ n. cond (holds exact high key || (exact field.0 key || false)) n (cond (holds exact low key) 1 0)) (sum_by-append (λ x. cond (has_key exact key x) 1 0) high ((field.0, field.1) ∷ [])))
    ∙ times_new (holds exact high key) (exact field.0 key) (holds exact low key) (times_of high key) (held_too high field key false is) (uncounted (has_key exact key) high)

-- how often a key stands
times : (high low : List Field) (key : List ℕ) → times_of (merged high low) key ≡ cond (holds exact high key) (times_of high key) (cond (holds exact low key) 1 0)
times high [] key = alone (holds exact high key) (times_of high key) (uncounted (has_key exact key) high)
times high (field ∷ low) key = times_at (holds exact high field.0) high low field key refl (λ h. times h low key)

pub merge_is : (high low : List Field) → IsMerge high low (merged high low)
merge_is high low = record { front = front high low; first = first high low; times = times high low }
