-- Elements that must be numbers.
use Rattle.std.proofs.Common.{◌≡◌, ◌∙◌, refl, sym, ap, ℕ, ℤ, pos, ◌+◌, ◌<◌, ◌≤◌, List, ◌∷◌, length, drop, get_or, add-one, Option, None, Err}
use Rattle.std.specs.Prelude.{unwrap_or}
use Rattle.std.proofs.Math.Seq.{drop-cons}
use Rattle.std.proofs.lemmas.List.{drop_all}
use Rattle.txt_core.specs.Number.{number}
use Rattle.natives.specs.Answers.{Tried}
use Rattle.natives.specs.Checks.{integer, integer_error}
use Rattle.natives.specs.Sorting.{numbers_error, first_error}
use Rattle.natives.specs.declared.fault.Fault.{Fault}
use Rattle.natives.specs.declared.fault.Fault.TheVariants.{Error, NoMemory}

-- the number of a text, or 0
pub integer_is : (text : List ℕ) (n : Option ℤ) → n ≡ number text → unwrap_or n (pos 0) ≡ integer text
unfolding integer
integer_is text n e = ap (λ (o : Option ℤ). unwrap_or o (pos 0)) e

-- an element, and those behind it
pub numbers_next : (xs : List (List ℕ)) (i : ℕ) (x : List ℕ) → i < length xs → x ≡ get_or xs i x → numbers_error (drop i xs) ≡ first_error (integer_error x) (numbers_error (drop (i + 1) xs))
unfolding numbers_error
numbers_next xs i x lt e =
    let split : drop i xs ≡ x ∷ drop (i + 1) xs = drop-cons xs i x lt ∙ rw (← e, add-one) refl in
    ap numbers_error split

-- behind the last there is no error
pub numbers_end : (xs : List (List ℕ)) (i : ℕ) → length xs ≤ i → numbers_error (drop i xs) ≡ None
unfolding numbers_error
numbers_end xs i le = ap numbers_error (drop_all i xs le)

-- the first element's error is that of all
pub numbers_fail : {A : Type 0} (P : A → Type 0) (error : Option (List ℕ)) (later all : Option (List ℕ)) (fault : Fault) → first_error error later ≡ all → Tried error P (Err fault) → Tried all (λ (x : Unit {0}). Unit {0}) (Err fault)
numbers_fail P error later all (Error text) e h = sym e ∙ rw h refl
numbers_fail P error later all NoMemory e h = tt

-- an element that is a number says nothing
pub numbers_pass : (error : Option (List ℕ)) (later : Option (List ℕ)) → error ≡ None → first_error error later ≡ later
numbers_pass error later e = rw e refl
