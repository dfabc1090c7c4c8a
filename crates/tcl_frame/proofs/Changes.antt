-- What names find after a change.
use Rattle.std.proofs.Common.{◌≡◌, ◌≢◌, ℕ, Bool, true, false, List, [], ◌∷◌, refl, sym, ap, ◌∙◌, ◌⊎◌, inl, inr, ⊎_elim}
use Rattle.std.specs.Prelude.{Option, Some, None, is_some, if◌then◌else◌}
use Rattle.std.specs.Ordering.{nat_cmp, is_eq}
use Rattle.std.specs.Cmp.{eq_by_cmp_equiv, Equal-is}
use Rattle.std.specs.Cmp.Lexicographic.{slice_cmp, nat_list_cmp_total}
use Rattle.std.specs.FinMap as map
use Rattle.std.specs.FinMap.{FinMap, get-insert, get-remove, get_tied, same_map}
use Rattle.std.proofs.lemmas.Bool.{cases_Bool, cond-true, cond-false, true≢false}
use Rattle.std.proofs.lemmas.Map.Lookups.{exact_bytes}
use Rattle.tcl_frame.specs.declared.frame.Frame.{Frame}
use Rattle.tcl_frame.specs.declared.variable.Variable.TheVariants.{Scalar, Array}
use Rattle.tcl_frame.specs.Names.{Named, Whole, Element, variable_name}
use Rattle.tcl_frame.specs.Variables.{Table, elements_in, with_value, without}
use Rattle.tcl_frame.specs.Meaning.{Nothing, Value, whole, element, value_or_nothing, found}
use Rattle.tcl_frame.specs.Stack.{Stack, Kept}
use Rattle.tcl_frame.specs.Frames.{table_of, with_table, links_name, found_in, written_to, removed_from, linked, unlinked}

abbrev same : List ℕ → List ℕ → Bool
same q k = is_eq (slice_cmp nat_cmp q k)

itself : (k : List ℕ) → same k k ≡ true
itself k = (eq_by_cmp_equiv nat_list_cmp_total).refl k

module _ {V : Type 0} (m : FinMap (slice_cmp nat_cmp) V) (k : List ℕ) where
  pub get_put : (v : V) → map.get (map.insert m k v) k ≡ Some v
  get_put v = get-insert nat_list_cmp_total m k v k ∙ cond-true (same k k) (Some v) (map.get m k) (itself k)

  get_taken : map.get (map.remove m k) k ≡ None
  get_taken = get-remove nat_list_cmp_total m k k ∙ cond-true (same k k) None (map.get m k) (itself k)

  pub get_put_other : (v : V) (q : List ℕ) → same q k ≡ false → map.get (map.insert m k v) q ≡ map.get m q
  get_put_other v q n = get-insert nat_list_cmp_total m k v q ∙ cond-false (same q k) (Some v) (map.get m q) n

  get_taken_other : (q : List ℕ) → same q k ≡ false → map.get (map.remove m k) q ≡ map.get m q
  get_taken_other q n = get-remove nat_list_cmp_total m k q ∙ cond-false (same q k) None (map.get m q) n

-- what is found after a write
found_written : (table : Table) (name : Named) (value : List ℕ) → found (with_value table name value) name ≡ Value value
found_written table (Whole name) value = ap whole (get_put table name (Scalar value))
found_written table (Element array index) value =
    let elements = elements_in (map.get table array) in
    ap (λ o. element o index) (get_put table array (Array (map.insert elements index value))) ∙ ap value_or_nothing (get_put elements index value)

-- what is found after a removal
found_removed : (table : Table) (name : Named) → found (without table name) name ≡ Nothing
found_removed table (Whole name) = ap whole (get_taken table name)
found_removed table (Element array index) =
    let elements = elements_in (map.get table array) in
    ap (λ o. element o index) (get_put table array (Array (map.remove elements index))) ∙ ap value_or_nothing (get_taken elements index)

-- other variables after a write and after a removal
written_other : (table : Table) (name : Named) (value q : List ℕ) → same q (variable_name name) ≡ false → map.get (with_value table name value) q ≡ map.get table q
written_other table (Whole name) value q n = get_put_other table name (Scalar value) q n
written_other table (Element array index) value q n = get_put_other table array _ q n

removed_other : (table : Table) (name : Named) (q : List ℕ) → same q (variable_name name) ≡ false → map.get (without table name) q ≡ map.get table q
removed_other table (Whole name) q n = get_taken_other table name q n
removed_other table (Element array index) q n = get_put_other table array _ q n

-- what a name finds is decided by the variable of its name
found_by : (t u : Table) (name : Named) → map.get t (variable_name name) ≡ map.get u (variable_name name) → found t name ≡ found u name
found_by t u (Whole name) e = ap whole e
found_by t u (Element array index) e = ap (λ o. element o index) e

abbrev stack_of : Table → List Frame → List Kept → Stack
stack_of global above keeps = record { global = global; above = above; keeps = keeps }

-- the variables that were put are found again
table_with : (global : Table) (above : List Frame) (keeps : List Kept) (k : List ℕ) (t : Table) → table_of (with_table (stack_of global above keeps) k t) k ≡ t
table_with global [] keeps k t = refl
table_with global (frame ∷ frames) keeps k t = by (map.contains_key frame.links k) refl
  where
    by : (b : Bool) → map.contains_key frame.links k ≡ b → table_of (with_table (stack_of global (frame ∷ frames) keeps) k t) k ≡ t
    by true e =
        ap (λ c. table_of (if c then stack_of t (frame ∷ frames) keeps else stack_of global (record frame { variables = t } ∷ frames) keeps) k) e
        ∙ ap (λ c. if c then t else frame.variables) e
    by false e =
        ap (λ c. table_of (if c then stack_of t (frame ∷ frames) keeps else stack_of global (record frame { variables = t } ∷ frames) keeps) k) e
        ∙ ap (λ c. if c then global else t) e

-- one of two tables, of which one is another that has the same at q
first_other : (b : Bool) (q : List ℕ) (t u v : Table) → map.get t q ≡ map.get u q → map.get (if b then t else v) q ≡ map.get (if b then u else v) q
first_other true q t u v e = e
first_other false q t u v e = refl

second_other : (b : Bool) (q : List ℕ) (t u v : Table) → map.get t q ≡ map.get u q → map.get (if b then v else t) q ≡ map.get (if b then v else u) q
second_other true q t u v e = refl
second_other false q t u v e = e

-- a variable of another name is found as before
table_other : (global : Table) (above : List Frame) (keeps : List Kept) (k q : List ℕ) (t : Table) → map.get t q ≡ map.get (table_of (stack_of global above keeps) k) q
    → map.get (table_of (with_table (stack_of global above keeps) k t) q) q ≡ map.get (table_of (stack_of global above keeps) q) q
table_other global [] keeps k q t as_before = as_before
table_other global (frame ∷ frames) keeps k q t as_before = by (map.contains_key frame.links k) refl
  where
    by : (b : Bool) → map.contains_key frame.links k ≡ b
        → map.get (table_of (with_table (stack_of global (frame ∷ frames) keeps) k t) q) q ≡ map.get (table_of (stack_of global (frame ∷ frames) keeps) q) q
    by true e =
        ap (λ c. map.get (table_of (if c then stack_of t (frame ∷ frames) keeps else stack_of global (record frame { variables = t } ∷ frames) keeps) q) q) e
        ∙ first_other (map.contains_key frame.links q) q t global frame.variables (as_before ∙ ap (λ c. map.get (if c then global else frame.variables) q) e)
    by false e =
        ap (λ c. map.get (table_of (if c then stack_of t (frame ∷ frames) keeps else stack_of global (record frame { variables = t } ∷ frames) keeps) q) q) e
        ∙ second_other (map.contains_key frame.links q) q t frame.variables global (as_before ∙ ap (λ c. map.get (if c then global else frame.variables) q) e)

pub unlike : (a b : List ℕ) → a ≢ b → same a b ≡ false
unlike a b n = ⊎_elim (λ y. absurd (n (exact_bytes a b ((Equal-is (slice_cmp nat_cmp a b)).0 y)))) (λ f. f) (cases_Bool (same a b))

pub written_found : (stack : Stack) (name : Named) (value : List ℕ) → found_in (written_to stack name value) name ≡ Value value
written_found stack name value =
    let k = variable_name name in
    ap (λ t. found t name) (table_with stack.global stack.above stack.keeps k (with_value (table_of stack k) name value)) ∙ found_written (table_of stack k) name value

pub removed_found : (stack : Stack) (name : Named) → found_in (removed_from stack name) name ≡ Nothing
removed_found stack name =
    let k = variable_name name in
    ap (λ t. found t name) (table_with stack.global stack.above stack.keeps k (without (table_of stack k) name)) ∙ found_removed (table_of stack k) name

pub written_apart : (stack : Stack) (name other : Named) (value : List ℕ) → variable_name other ≢ variable_name name
    → found_in (written_to stack name value) other ≡ found_in stack other
written_apart stack name other value n =
    let k = variable_name name in
    let q = variable_name other in
    let t = with_value (table_of stack k) name value in
    found_by (table_of (with_table stack k t) q) (table_of stack q) other
    (table_other stack.global stack.above stack.keeps k q t (written_other (table_of stack k) name value q (unlike q k n)))

pub removed_apart : (stack : Stack) (name other : Named) → variable_name other ≢ variable_name name
    → found_in (removed_from stack name) other ≡ found_in stack other
removed_apart stack name other n =
    let k = variable_name name in
    let q = variable_name other in
    let t = without (table_of stack k) name in
    found_by (table_of (with_table stack k t) q) (table_of stack q) other
    (table_other stack.global stack.above stack.keeps k q t (removed_other (table_of stack k) name q (unlike q k n)))

linked_in : (global : Table) (above : List Frame) (keeps : List Kept) (k : List ℕ) → table_of (linked (stack_of global above keeps) k) k ≡ global
linked_in global [] keeps k = refl
linked_in global (frame ∷ frames) keeps k = ap (λ o. if is_some o then global else frame.variables) (get_put frame.links k tt)

pub linked_found : (stack : Stack) (name : Named) → found_in (linked stack (variable_name name)) name ≡ found stack.global name
linked_found stack name = ap (λ t. found t name) (linked_in stack.global stack.above stack.keeps (variable_name name))

-- a key that is put and taken away again, where it had nothing
put_taken : {V : Type 0} (m : FinMap (slice_cmp nat_cmp) V) (k : List ℕ) (v : V) → is_some (map.get m k) ≡ false → map.remove (map.insert m k v) k ≡ m
put_taken m k v none = same_map nat_list_cmp_total exact_bytes _ _ (λ q. by q (cases_Bool (same q k)))
  where
    nothing : {V : Type 0} (o : Option V) → is_some o ≡ false → o ≡ None
    nothing None e = refl
    nothing (Some v) e = absurd (true≢false e)

    by : (q : List ℕ) → (same q k ≡ true) ⊎ (same q k ≡ false) → map.get (map.remove (map.insert m k v) k) q ≡ map.get m q
    by q (inl y) = get-remove nat_list_cmp_total (map.insert m k v) k q ∙ cond-true (same q k) None (map.get (map.insert m k v) q) y
        ∙ sym (nothing (map.get m k) none) ∙ get_tied nat_list_cmp_total m q k ((Equal-is (slice_cmp nat_cmp q k)).0 y)
    by q (inr n) = get_taken_other (map.insert m k v) k q n ∙ get_put_other m k v q n

unlinked_in : (global : Table) (above : List Frame) (keeps : List Kept) (k : List ℕ) → links_name above k ≡ false
    → unlinked (linked (stack_of global above keeps) k) k ≡ stack_of global above keeps
unlinked_in global [] keeps k own = absurd (true≢false own)
unlinked_in global (frame ∷ frames) keeps k own =
    ap (λ links. stack_of global (record frame { links = links } ∷ frames) keeps) (put_taken frame.links k tt own)

pub unlinked_again : (stack : Stack) (name : List ℕ) → links_name stack.above name ≡ false → unlinked (linked stack name) name ≡ stack
unlinked_again stack name own = unlinked_in stack.global stack.above stack.keeps name own
