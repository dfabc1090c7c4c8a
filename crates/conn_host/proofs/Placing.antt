-- Places of fields, and whether there is one.
use Rattle.std.proofs.Common.{◌≡◌, ◌∙◌, refl, ℕ, suc, ◌+◌, Bool, true, false, not, ◌||◌, cond, List, [], ◌∷◌, length, Option, Some, None, nat_lt, arith}
use Rattle.std.specs.Prelude.{ℤ, pos, negsuc}
use Rattle.std.specs.List.{list_any, position_or_len}
use lib.Signed.{le_z}
use Rattle.std.proofs.lemmas.Int.{ints}
use Rattle.std.proofs.lemmas.Bool.Decides.{nat_tests}
use Rattle.ns_sets.specs.Fields.{place_number}

any_step : (here later : Bool) (n k : ℕ) → later ≡ nat_lt n k → (here || later) ≡ nat_lt (cond (not here) (1 + n) 0) (suc k)
any_step true later n k same = grind (arith, nat_tests)
any_step false later n k same = same ∙ grind (arith, nat_tests)

-- an element passes exactly where the first that passes has a place
pub any_is : {A : Type 0} (p : A → Bool) (xs : List A) → list_any p xs ≡ nat_lt (position_or_len p xs) (length xs)
any_is p [] = grind (arith, nat_tests)
any_is p (x ∷ xs) = any_step (p x) (list_any p xs) (position_or_len p xs) (length xs) (any_is p xs)

-- the number of a place is from 0 on, and that of none isn't
pub placed : (place : ℤ) (test : Bool) (n : ℕ) → place ≡ place_number (cond test (Some n) None) → le_z (pos 0) place ≡ test
placed place true n is = rw is (grind (arith, ints))
placed place false n is = rw is refl
