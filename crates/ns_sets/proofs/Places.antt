-- The first place of a key, and what stands there.
use Rattle.std.proofs.Common.{◌≡◌, ℕ, ◌<◌, Bool, true, false, cond, List, ◌++◌, Option, Some, None, length, get_or, ap, ◌∙◌, refl}
use Rattle.std.proofs.lemmas.Bool.{ltb-false}
use Rattle.std.proofs.lemmas.Option.{slice_get_read, slice_get_past}
use Rattle.std.proofs.lemmas.List.Folds.{find_at}
use Rattle.std.proofs.lemmas.List.Edits.{remove-append_left}
use Rattle.std.specs.List.{position, find, slice_get}
use Rattle.std.specs.Option.{IfSome}
use Rattle.ns_sets.specs.Fields.{Field, without_place}

chosen : (b : Bool) (n at : ℕ) → cond b (Some n) None ≡ Some at → n ≡ at
chosen true n at is = cc
chosen false n at is = cc

not_chosen : (b : Bool) (n : ℕ) → cond b (Some n) None ≡ None → b ≡ false
not_chosen true n is = cc
not_chosen false n is = refl

-- a search finds what stands at the first place
pub found : {X : Type 0} (p : X → Bool) (xs : List X) (at : ℕ) (x : X) → position p xs ≡ Some at → at < length xs → x ≡ get_or xs at x → find p xs ≡ Some x
found p xs at x is within here = (find_at p xs ∙ ap (λ n. slice_get xs n) (chosen _ _ _ is)) ∙ slice_get_read xs (length xs) at x refl within here

-- and nothing where there is no first place
pub not_found : {X : Type 0} (p : X → Bool) (xs : List X) → position p xs ≡ None → find p xs ≡ None
not_found p xs is = find_at p xs ∙ slice_get_past xs _ (ltb-false _ _ (not_chosen _ _ is))

-- a field is removed from the front of a list
pub without_place-append : (fields more : List Field) (place : Option ℕ) → IfSome place (λ at. at < length fields) → without_place (fields ++ more) place ≡ without_place fields place ++ more
without_place-append fields more None within = refl
without_place-append fields more (Some at) within = remove-append_left fields more at within
