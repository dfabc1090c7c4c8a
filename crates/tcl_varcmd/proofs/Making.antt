-- Arrays that are made, removed and written.
use Rattle.std.proofs.Common.{◌≡◌, ◌%◌, ℕ, true, false, List, length, Option, Some, None, Err, refl, ap}
use Rattle.std.specs.Prelude.{codes, ◌==◌}
use Rattle.std.specs.FinMap as map
use Rattle.txt_core.specs.Lists.{Listing, elements, bad_at}
use Rattle.txt_core.specs.Listing.{listing}
use Rattle.tcl_frame.specs.declared.fault.VarFault.TheVariants as faults
use Rattle.tcl_frame.specs.declared.variable.Variable.{Variable}
use Rattle.tcl_frame.specs.declared.variable.Variable.TheVariants.{Scalar, Array}
use Rattle.tcl_frame.specs.Names.{Named, Whole, Element, named, is_element}
use Rattle.tcl_frame.specs.Variables.{Table}
use Rattle.tcl_frame.specs.Meaning.{Found, Nothing, Value, AnArray, InScalar, found, whole, is_there, is_array_there, no_array, no_removal}
use Rattle.tcl_frame.specs.Stack.{Stack}
use Rattle.tcl_frame.specs.Frames.{table_of, found_in, has, is_array}
use Rattle.tcl_frame.specs.Names.{variable_name}
use Rattle.natives.specs.declared.fault.Fault.{Fault}
use Rattle.natives.specs.declared.fault.Fault.TheVariants.{Error, NoMemory}
use Rattle.txt_core.specs.ErrorTexts.{naming, bad_value}
use Rattle.natives.specs.Checks.{list_error, items}
use Rattle.tcl_varcmd.specs.Errors.{refused, array_error, remove_error}
use Rattle.natives.specs.Answers.{Tried}
use Rattle.tcl_varcmd.specs.Answers.{Came, Answers, Changes}
use Rattle.tcl_varcmd.specs.Arrays.{pairs_error}

-- ---- lists of pairs

bad_pairs_at : (t : List ℕ) (l : Listing) (text : List ℕ) → listing t ≡ l → list_error t ≡ Some text → pairs_error t ≡ Some text
unfolding list_error pairs_error
bad_pairs_at t (elements v) text at h = let k = rw at at h in absurd (cc)
bad_pairs_at t (bad_at place) text at h = let k = rw at at h in rw at k

-- a text that is no list
pub bad_pairs : {A B : Type 0} (P : A → Type 0) (Q : B → Type 0) (t : List ℕ) (x : Fault) → Tried (list_error t) P (Err x) → Tried (pairs_error t) Q (Err x)
bad_pairs P Q t (Error text) h = bad_pairs_at t (listing t) text refl h
bad_pairs P Q t NoMemory h = tt

uneven_at : (t : List ℕ) (l : Listing) → listing t ≡ l → list_error t ≡ None → (length (items t) % 2 == 1) ≡ true → pairs_error t ≡ Some (bad_value t (codes "array"))
unfolding list_error pairs_error items
uneven_at t (elements v) at none h = let k = rw at at h in rw (at, k) refl
uneven_at t (bad_at place) at none h = let k = rw at at none in absurd (cc)

-- an index without a value
pub uneven_pairs : (t : List ℕ) → list_error t ≡ None → (length (items t) % 2 == 1) ≡ true → pairs_error t ≡ Some (bad_value t (codes "array"))
uneven_pairs t none h = uneven_at t (listing t) refl none h

even_at : (t : List ℕ) (l : Listing) → listing t ≡ l → list_error t ≡ None → (length (items t) % 2 == 1) ≡ false → pairs_error t ≡ None
unfolding list_error pairs_error items
even_at t (elements v) at none h = let k = rw at at h in rw (at, k) refl
even_at t (bad_at place) at none h = let k = rw at at none in absurd (cc)

-- as many values as indexes
pub even_pairs : (t : List ℕ) → list_error t ≡ None → (length (items t) % 2 == 1) ≡ false → pairs_error t ≡ None
even_pairs t none h = even_at t (listing t) refl none h

-- ---- arrays that are made

-- an element's name
pub element_making : (stack : Stack) (name : List ℕ) → is_element (named name) ≡ true → array_error stack name ≡ Some (naming (codes "variable \"") name (codes "\" is no array"))
unfolding array_error
element_making stack name h = rw h refl

array_at : (f : Found) → is_array_there f ≡ true → no_array f ≡ None
array_at Nothing h = absurd (cc)
array_at (Value value) h = absurd (cc)
array_at (AnArray pairs) h = refl
array_at InScalar h = absurd (cc)

-- an array
pub array_making : (stack : Stack) (name : List ℕ) → is_element (named name) ≡ false → is_array stack name ≡ true → array_error stack name ≡ None
unfolding array_error
array_making stack name h k = rw h (ap (refused name) (array_at (found_in stack (named name)) k))

occupied_at : (f : Found) → is_array_there f ≡ false → is_there f ≡ true → no_array f ≡ Some faults.NotArray
occupied_at Nothing h k = absurd (cc)
occupied_at (Value value) h k = refl
occupied_at (AnArray pairs) h k = absurd (cc)
occupied_at InScalar h k = absurd (cc)

-- a scalar
pub scalar_making : (stack : Stack) (name : List ℕ) → is_element (named name) ≡ false → is_array stack name ≡ false → has stack name ≡ true → array_error stack name ≡ Some (naming (codes "variable \"") name (codes "\" is no array"))
unfolding array_error
scalar_making stack name h k there = rw h (ap (refused name) (occupied_at (found_in stack (named name)) k there))

whole_at : (o : Option Variable) → is_array_there (whole o) ≡ false → is_there (whole o) ≡ false → no_array (whole o) ≡ None
whole_at None h k = refl
whole_at (Some (Scalar text)) h k = absurd (cc)
whole_at (Some (Array pairs)) h k = absurd (cc)

absent_at : (t : Table) (m : Named) → is_element m ≡ false → is_array_there (found t m) ≡ false → is_there (found t m) ≡ false → no_array (found t m) ≡ None
absent_at t (Whole name) e h k = whole_at (map.get t name) h k
absent_at t (Element array index) e h k = absurd (cc)

-- no variable
pub absent_making : (stack : Stack) (name : List ℕ) → is_element (named name) ≡ false → is_array stack name ≡ false → has stack name ≡ false → array_error stack name ≡ None
unfolding array_error
absent_making stack name h k there = rw h (ap (refused name) (absent_at (table_of stack (variable_name (named name))) (named name) h k there))

-- ---- arrays that are removed

removable_at : (f : Found) → is_array_there f ≡ true → no_removal f ≡ None
removable_at Nothing h = absurd (cc)
removable_at (Value value) h = absurd (cc)
removable_at (AnArray pairs) h = refl
removable_at InScalar h = absurd (cc)

pub removable : (stack : Stack) (name : List ℕ) → is_array stack name ≡ true → remove_error stack name ≡ None
unfolding remove_error
removable stack name h = ap (refused name) (removable_at (found_in stack (named name)) h)

-- a change without an error fails for want of memory alone
pub no_error : (error : Option (List ℕ)) (after before new : Stack) (came : Came) (x : Fault) → error ≡ None → Changes error after before (Err x) new → Answers came (Err x) new
no_error error after before new came (Error text) none h = let k = h.0 in absurd (cc)
no_error error after before new came NoMemory none h = tt
