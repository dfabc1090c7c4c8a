-- Paths, and look-ups in the form.
use Rattle.std.proofs.Common.{◌≡◌, ◌∙◌, ap, sym, refl, ℕ, ◌≤◌, min, Bool, true, false, List, [], ◌∷◌, ◌++◌, append-nil, length, take, drop, cond, ◌||◌, Option, Some, None, arith}
use Rattle.std.proofs.Math.Seq.{take-nil}
use Rattle.std.proofs.lemmas.List.{drop_all, take_min}
use Rattle.std.specs.Prelude.{codes, flat_map, find}
use Rattle.std.specs.List.{join_with_byte, list_any}
use Rattle.std.specs.Option.{option_map_or}

-- segments behind slashes
pub slashed : (segment : List ℕ) (segments : List (List ℕ)) → flat_map (λ (s : List ℕ). codes "/" ++ s) (segment ∷ segments) ≡ codes "/" ++ join_with_byte 47 (segment ∷ segments)
slashed segment [] = append-nil (codes "/" ++ segment)
slashed segment (next ∷ segments) = ap (λ (rest : List ℕ). codes "/" ++ segment ++ rest) (slashed next segments)

pub slashed_some : (segments : List (List ℕ)) → (segments ≡ [] → ⊥) → flat_map (λ (s : List ℕ). codes "/" ++ s) segments ≡ codes "/" ++ join_with_byte 47 segments
slashed_some [] some = absurd (some refl)
slashed_some (segment ∷ segments) some = slashed segment segments

none_step : {A : Type 0} (here later : Bool) (found : Option A) (x : A) → (here || later) ≡ false → (later ≡ false → found ≡ None) → cond here (Some x) found ≡ None
none_step true later found x none rest = absurd (let no : true ≡ false = none in cc)
none_step false later found x none rest = rest none

-- no element is found where none passes
pub find_none : {A : Type 0} (p : A → Bool) (xs : List A) → list_any p xs ≡ false → find p xs ≡ None
find_none p [] none = refl
find_none p (x ∷ xs) none = none_step (p x) (list_any p xs) (find p xs) x none (find_none p xs)

some_step : {A B : Type 0} (f : A → B) (c d : B) (here later : Bool) (found : Option A) (x : A) → (here || later) ≡ true → (later ≡ true → option_map_or f found c ≡ option_map_or f found d)
    → option_map_or f (cond here (Some x) found) c ≡ option_map_or f (cond here (Some x) found) d
some_step f c d true later found x some rest = refl
some_step f c d false later found x some rest = rest some

-- where one passes, what stands for a missing one doesn't count
pub find_some : {A B : Type 0} (f : A → B) (p : A → Bool) (xs : List A) (c d : B) → list_any p xs ≡ true → option_map_or f (find p xs) c ≡ option_map_or f (find p xs) d
find_some f p [] c d some = absurd (let no : false ≡ true = some in cc)
find_some f p (x ∷ xs) c d some = some_step f c d (p x) (list_any p xs) (find p xs) x some (find_some f p xs c d)

-- nothing is left past the end
pub past_the_end : (most first : ℕ) (bytes : List ℕ) → length bytes ≤ first → take most (drop first bytes) ≡ []
past_the_end most first bytes past = rw (drop_all first bytes past) (take-nil most)

-- as many as there are suffice
pub cut_short : (most : ℕ) (bytes : List ℕ) → take (min (length bytes) most) bytes ≡ take most bytes
cut_short most bytes = ap (λ (n : ℕ). take n bytes) (let turned : min (length bytes) most ≡ min most (length bytes) = omega arith in turned) ∙ take_min most bytes

pub ruleset parts = (past_the_end, cut_short)

-- look-ups that find none, and those that find one
pub ruleset finds = (find_none, find_some)
