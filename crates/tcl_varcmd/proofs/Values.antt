-- Numbers and lists.
use Rattle.std.proofs.Common.{◌≡◌, ◌^◌, ◌<◌, ℕ, ℤ, pos, negsuc, true, false, List, ◌++◌, Some, None, Ok, Err, arith, refl, sym, ◌∙◌, ap}
use Rattle.std.specs.Bool.{nat_lt}
use Rattle.std.specs.Int.{w64}
use Rattle.std.specs.Int.RustNames.{FitsSigned}
use Rattle.std.proofs.lemmas.Bool.Decides.{nat_tests}
use Rattle.tcl_list.specs.declared.fault.ListFault.{ListFault}
use Rattle.tcl_list.specs.declared.fault.ListFault.TheVariants as list_faults
use Rattle.tcl_list.specs.Answers.{SplitsAs, AppendsTo}
use Rattle.natives.specs.declared.fault.Fault.{Fault}
use Rattle.natives.specs.declared.fault.Fault.TheVariants.{Error, NoMemory}
use Rattle.natives.specs.Answers.{Tried}
use Rattle.tcl_varcmd.specs.Reading.{SaysOfList}
use Rattle.txt_core.specs.Lists.{elements}
use Rattle.txt_core.specs.Listing.{listing}
use Rattle.txt_core.specs.Quoting.{quoting}
use Rattle.txt_core.specs.ErrorTexts.{overflow}
use Rattle.natives.specs.Checks.{bad_list, list_error, listed, items}
use Rattle.txt_core.specs.Number.{fits}
use Rattle.tcl_varcmd.specs.Errors.{sum_error}

pub is_list : (t : List ℕ) (v : List (List ℕ)) → listing t ≡ elements v → (list_error t ≡ None) × (v ≡ items t)
unfolding list_error items
is_list t v h = (ap bad_list h, ap listed (sym h))

-- elements behind those of a text that is a list
pub appended : (t : List ℕ) (v : List (List ℕ)) (out : List ℕ) → AppendsTo t v (Ok out) → (list_error t ≡ None) × (out ≡ quoting (items t ++ v))
unfolding list_error items
appended t v out h =
    let is : (list_error t ≡ None) × (h.0 ≡ items t) = is_list t h.0 h.1 in
    (is.0, h.2 ∙ ap (λ (w : List (List ℕ)). quoting (w ++ v)) is.1)

-- what putting elements behind a text says of one that is no list, splitting it says too
pub bad_to_append : (t : List ℕ) (v : List (List ℕ)) (f : ListFault) → AppendsTo t v (Err f) → SplitsAs t (Err f)
bad_to_append t v (list_faults.Bad at) h = h
bad_to_append t v list_faults.NoMemory h = tt

-- the error of a text that is no list
pub bad_list_said : {B : Type 0} (P : B → Type 0) (t : List ℕ) (f : ListFault) (x : Fault) → SplitsAs t (Err f) → SaysOfList f x → Tried (list_error t) P (Err x)
unfolding list_error
bad_list_said P t (list_faults.Bad at) (Error text) h s = ap bad_list h ∙ ap Some (sym s)
bad_list_said P t list_faults.NoMemory (Error text) h s = absurd (cc)
bad_list_said P t f NoMemory h s = tt

below : (n : ℕ) → n < 2 ^ 63 → nat_lt n (2 ^ 63) ≡ true
below n h = grind (arith, nat_tests, h)

not_below : (n : ℕ) → (n < 2 ^ 63 → ⊥) → nat_lt n (2 ^ 63) ≡ false
not_below n h = grind (arith, nat_tests, h)

fitting : (z : ℤ) → FitsSigned w64 z → fits z ≡ true
fitting (pos n) f = below n f.sfits
fitting (negsuc n) f = below n f.sfits

not_fitting : (z : ℤ) → (FitsSigned w64 z → ⊥) → fits z ≡ false
not_fitting (pos n) f = not_below n (λ h. f (record { sfits = h }))
not_fitting (negsuc n) f = not_below n (λ h. f (record { sfits = h }))

-- a sum of 64 bits
pub sum_fits : (z : ℤ) → FitsSigned w64 z → sum_error z ≡ None
unfolding sum_error
sum_fits z f = rw (fitting z f) refl

-- one that is out of range
pub sum_overflows : (z : ℤ) → (FitsSigned w64 z → ⊥) → sum_error z ≡ Some overflow
unfolding sum_error
sum_overflows z f = rw (not_fitting z f) refl
