-- What a change of one variable makes of the variables.
use Rattle.std.proofs.Common.{◌≡◌, ℕ, List, refl, sym, ap, subst, ◌∙◌, ⊎_elim, is_some, ◌++◌}
use Rattle.std.specs.Prelude.{Option, Some, None, OnSome, Result, Ok, Err, OnOk, OnErr}
use Rattle.std.specs.Ordering.{nat_cmp, is_eq}
use Rattle.std.specs.Cmp.{Equal-is}
use Rattle.std.specs.Cmp.Lexicographic.{slice_cmp, nat_list_cmp_total}
use Rattle.std.specs.FinMap as map
use Rattle.std.specs.FinMap.{FinMap, get-empty, get-insert, get_tied, same_map}
use Rattle.std.proofs.lemmas.Bool.{cases_Bool, cond-true, cond-false, true≢false}
use Rattle.std.proofs.lemmas.Map.Lookups.{exact_bytes}
use Rattle.tcl_frame.specs.declared.variable.Variable.{Variable}
use Rattle.tcl_frame.specs.declared.variable.Variable.TheVariants.{Scalar, Array}
use Rattle.tcl_frame.specs.Variables.{Elements, elements_in}
use Rattle.tcl_frame.specs.Arrays.{without_index}
use Rattle.tcl_frame.specs.Appending.{text_of}
use Rattle.tcl_frame.specs.Meaning.{element, value_or_nothing, value_there, no_write, no_removal}

-- one step further from what holds at `Ok`
pub on_ok : {A E : Type 0} (r : Result A E) (X Y : Type 0) → (X → Y) → OnOk r X → OnOk r Y
on_ok (Ok x) X Y f h = f h
on_ok (Err e) X Y f h = tt

-- one step further from what holds at `Err`
pub on_err : {A E : Type 0} (r : Result A E) (X Y : Type 0) → (X → Y) → OnErr r X → OnErr r Y
on_err (Ok x) X Y f h = tt
on_err (Err e) X Y f h = f h

-- one step further from what holds at `Some`
pub on_some : {A : Type 0} (o : Option A) (X Y : Type 0) → (X → Y) → OnSome o X → OnSome o Y
on_some None X Y f h = tt
on_some (Some x) X Y f h = f h

-- what holds where there is a value, where there is one
pub at_some : {A : Type 0} (o : Option A) (x : A) (X : Type 0) → o ≡ Some x → OnSome o X → X
at_some o x X e h = subst (λ o. OnSome o X) e h

-- to insert the value that stands there changes nothing
pub same_inserted : {V : Type 0} (m : FinMap (slice_cmp nat_cmp) V) (k : List ℕ) (v : V) → map.get m k ≡ Some v → map.insert m k v ≡ m
same_inserted m k v there = same_map nat_list_cmp_total exact_bytes _ _ (λ q.
    get-insert nat_list_cmp_total m k v q
    ∙ ⊎_elim
    (λ y. cond-true (is_eq (slice_cmp nat_cmp q k)) (Some v) (map.get m q) y ∙ sym there ∙ get_tied nat_list_cmp_total m q k ((Equal-is (slice_cmp nat_cmp q k)).0 y))
    (λ n. cond-false (is_eq (slice_cmp nat_cmp q k)) (Some v) (map.get m q) n)
    (cases_Bool (is_eq (slice_cmp nat_cmp q k))))

-- an element of an array can always be written
pub element_open : (o : Option (List ℕ)) → no_write (value_or_nothing o) ≡ None
element_open None = refl
element_open (Some text) = refl

-- the text of an element in an array that was absent, and the array with it
module _ (elements : Elements) (found : Option Variable) (index more : List ℕ) (new : elements ≡ map.empty) (none : None ≡ found) where
  pub first_text : text_of (map.get elements index) ++ more ≡ value_there (element found index) ++ more
  first_text =
      ap (λ m. text_of (map.get m index) ++ more) new
      ∙ ap (λ o. text_of o ++ more) (get-empty (slice_cmp nat_cmp) index)
      ∙ ap (λ o. value_there (element o index) ++ more) none

  pub first_element : map.insert elements index (text_of (map.get elements index) ++ more) ≡ map.insert (elements_in found) index (value_there (element found index) ++ more)
  first_element =
      ap (map.insert elements index) first_text
      ∙ ap (λ m. map.insert m index (value_there (element found index) ++ more)) (new ∙ ap elements_in none)

-- an element that can be removed is in an array
removal_in_array : (v : Variable) (index : List ℕ) → no_removal (element (Some v) index) ≡ None → without_index v index ≡ Array (map.remove (elements_in (Some v)) index)
removal_in_array (Scalar text) index e = absurd (true≢false (ap is_some e))
removal_in_array (Array elements) index e = refl

pub element_removed : (v : Variable) (found : Option Variable) (index : List ℕ) → Some v ≡ found → no_removal (element found index) ≡ None
    → without_index v index ≡ Array (map.remove (elements_in found) index)
element_removed v found index e =
    subst (λ f. no_removal (element f index) ≡ None → without_index v index ≡ Array (map.remove (elements_in f) index)) e (removal_in_array v index)
