-- What the global variables are, by the base scalars and by what stands beside them.
use Rattle.std.proofs.Common.{◌≡◌, is_some, ℕ, Bool, true, false, List, [], ◌∷◌, ◌++◌, refl, sym, ap, subst, ◌∙◌, cond, ⊎_elim, Err}
use Rattle.std.specs.Prelude.{Option, Some, None, IsSome, not}
use Rattle.std.specs.Option.{option_map}
use Rattle.std.specs.Ordering.{nat_cmp, is_eq}
use Rattle.std.specs.Cmp.{Equal-is, eq_by_cmp_equiv}
use Rattle.std.specs.Cmp.Lexicographic.{slice_cmp, nat_list_cmp_total}
use Rattle.std.specs.FinMap as map
use Rattle.std.specs.FinMap.{FinMap, get-empty, get-entries, get-from_entries, get-insert, get-remove, get-retain_keys, get_tied, same_map}
use Rattle.std.proofs.lemmas.Bool.{cases_Bool, cond-true, cond-false, true≢false}
use Rattle.std.proofs.lemmas.Map.Lookups.{exact_bytes}
use Rattle.tcl_frame.specs.declared.base.Base.{Base}
use Rattle.tcl_frame.specs.declared.variable.Variable.{Variable}
use Rattle.tcl_frame.specs.declared.variable.Variable.TheVariants.{Scalar, Array}
use Rattle.tcl_frame.specs.declared.fault.VarFault.{VarFault}
use Rattle.tcl_frame.specs.declared.fault.VarFault.TheVariants.{NoVariable, IsArray, NotArray, Exists, NoMemory}
use Rattle.tcl_frame.specs.Refusal.{IsRefusedFor}
use Rattle.tcl_frame.specs.Names.{Named, Whole, Element, variable_name}
use Rattle.txt_core.specs.Keyed.{with_pairs}
use Rattle.tcl_frame.specs.Variables.{Table, Scalars, elements_in, with_value, without, with_array}
use Rattle.tcl_frame.specs.Meaning.{Found, Value, InScalar, whole, element, found, value_there, no_write, no_removal, no_array}
use Rattle.tcl_frame.specs.Appending.{longer, with_longer}
use Rattle.tcl_frame.specs.Stack.{Kept}
use Rattle.tcl_frame.specs.Base.{base_of, with_scalars, as_variables}
use Rattle.tcl_frame.specs.NotLending.{IsBase}
use Rattle.tcl_frame.specs.Globals.{Globals, base_fault, Bases, stands, standing_value, valued, values_of, standing, together, set_aside, standing_again, with_aside_one, with_aside}

abbrev pub same : List ℕ → List ℕ → Bool
same q k = is_eq (slice_cmp nat_cmp q k)

-- maps that answer alike are one
pub alike : {V : Type 0} (m n : FinMap (slice_cmp nat_cmp) V) → ((q : List ℕ) → map.get m q ≡ map.get n q) → m ≡ n
alike m n is = same_map nat_list_cmp_total exact_bytes m n is

-- what a map has at a key that is the same
pub tied : {V : Type 0} (m : FinMap (slice_cmp nat_cmp) V) (q k : List ℕ) → same q k ≡ true → map.get m k ≡ map.get m q
tied m q k y = get_tied nat_list_cmp_total m q k ((Equal-is (slice_cmp nat_cmp q k)).0 y)

-- what a scalar that stands in front of a variable makes of it
abbrev pub shown : Option (List ℕ) → Option Variable → Option Variable
shown None variable = variable
shown (Some value) variable = Some (Scalar value)

-- ---- what is found

shown_first : (b : Bool) (v : List ℕ) (f : Option (List ℕ)) (o : Option Variable) → cond b (Some (Scalar v)) (shown f o) ≡ shown (cond b (Some v) f) o
shown_first true v f o = refl
shown_first false v f o = refl

-- what variables with scalars in front have at a name
over_get : (es : List (List ℕ × List ℕ)) (t : Table) (q : List ℕ) → map.get (with_scalars es t) q ≡ shown (map.find (slice_cmp nat_cmp) q es) (map.get t q)
over_get [] t q = refl
over_get (e ∷ es) t q =
    get-insert nat_list_cmp_total (with_scalars es t) e.0 (Scalar e.1) q
    ∙ ap (cond (same q e.0) (Some (Scalar e.1))) (over_get es t q)
    ∙ shown_first (same q e.0) e.1 (map.find (slice_cmp nat_cmp) q es) (map.get t q)

-- the value of a base scalar
abbrev pub value_of : Option Base → Option (List ℕ)
value_of o = option_map (λ base. base.value) o

pub mapped_first : (b : Bool) (base : Base) (f : Option Base) → cond b (Some base.value) (value_of f) ≡ value_of (cond b (Some base) f)
mapped_first true base f = refl
mapped_first false base f = refl

valued_find : (es : List (List ℕ × Base)) (q : List ℕ) → map.find (slice_cmp nat_cmp) q (valued es) ≡ value_of (map.find (slice_cmp nat_cmp) q es)
valued_find [] q = refl
valued_find (e ∷ es) q =
    ap (cond (same q e.0) (Some e.1.value)) (valued_find es q) ∙ mapped_first (same q e.0) e.1 (map.find (slice_cmp nat_cmp) q es)

by_flag : (aside : Bool) (base : Base) → value_of (cond (not aside) (Some base) None) ≡ cond aside None (Some base.value)
by_flag true base = refl
by_flag false base = refl

by_standing : (o : Option Base) → value_of (cond (stands o) o None) ≡ standing_value o
by_standing None = refl
by_standing (Some base) = by_flag base.aside base

-- what the base scalars that aren't set aside have at a name
standing_find : (bases : Bases) (q : List ℕ) → map.find (slice_cmp nat_cmp) q (standing bases) ≡ standing_value (map.get bases q)
standing_find bases q =
    let test : List ℕ → Bool = λ name. stands (map.get bases name) in
    valued_find (map.entries (map.retain_keys bases test)) q
    ∙ ap value_of (sym (get-entries (map.retain_keys bases test) q)
    ∙ get-retain_keys bases test q (λ x t. ap stands (get_tied nat_list_cmp_total bases q x t)))
    ∙ by_standing (map.get bases q)

-- what the variables have at a name
pub together_get : (bases : Bases) (own : Table) (q : List ℕ) → map.get (together bases own) q ≡ shown (standing_value (map.get bases q)) (map.get own q)
together_get bases own q = over_get (standing bases) own q ∙ ap (λ f. shown f (map.get own q)) (standing_find bases q)

pub values_get : (bases : Bases) (q : List ℕ) → map.get (values_of bases) q ≡ value_of (map.get bases q)
values_get bases q =
    get-from_entries nat_list_cmp_total (valued (map.entries bases)) q ∙ valued_find (map.entries bases) q ∙ ap value_of (sym (get-entries bases q))

alone : (o : Option (List ℕ)) → shown o None ≡ option_map Scalar o
alone None = refl
alone (Some v) = refl

-- what scalars as variables have at a name
pub as_get : (scalars : Scalars) (q : List ℕ) → map.get (as_variables scalars) q ≡ option_map Scalar (map.get scalars q)
as_get scalars q =
    over_get (map.entries scalars) map.empty q
    ∙ ap (shown (map.find (slice_cmp nat_cmp) q (map.entries scalars))) (get-empty (slice_cmp nat_cmp) q)
    ∙ alone (map.find (slice_cmp nat_cmp) q (map.entries scalars))
    ∙ ap (option_map Scalar) (sym (get-entries scalars q))

-- ---- clearing

module _ (bases again : Bases) (is : (q : List ℕ) → map.get again q ≡ option_map standing_again (map.get bases q)) where
  again_value : (o : Option Base) → value_of (option_map standing_again o) ≡ value_of o
  again_value None = refl
  again_value (Some base) = refl

  again_shown : (o : Option Base) → shown (standing_value (option_map standing_again o)) None ≡ option_map Scalar (value_of o)
  again_shown None = refl
  again_shown (Some base) = refl

  -- the base values stay
  pub again_values : values_of again ≡ values_of bases
  again_values = alike _ _ (λ q. values_get again q ∙ ap value_of (is q) ∙ again_value (map.get bases q) ∙ sym (values_get bases q))

  -- the variables are the base scalars
  pub again_together : together again map.empty ≡ as_variables (values_of bases)
  again_together = alike _ _ (λ q.
      together_get again map.empty q
      ∙ ap (shown (standing_value (map.get again q))) (get-empty (slice_cmp nat_cmp) q)
      ∙ ap (λ o. shown (standing_value o) None) (is q)
      ∙ again_shown (map.get bases q)
      ∙ sym (as_get (values_of bases) q ∙ ap (option_map Scalar) (values_get bases q)))

-- ---- a change of one base scalar

aside_by : (bases : Bases) (k : List ℕ) (o : Option Base) → map.get bases k ≡ o → (q : List ℕ)
    → map.get (with_aside_one bases k o) q ≡ cond (same q k) (option_map set_aside o) (map.get bases q)
aside_by bases k None none q =
    ⊎_elim
    (λ y. sym (tied bases q k y) ∙ none ∙ sym (cond-true (same q k) None (map.get bases q) y))
    (λ n. sym (cond-false (same q k) None (map.get bases q) n))
    (cases_Bool (same q k))
aside_by bases k (Some base) is q = get-insert nat_list_cmp_total bases k (set_aside base) q

aside_get : (bases : Bases) (k q : List ℕ) → map.get (with_aside bases k) q ≡ cond (same q k) (option_map set_aside (map.get bases k)) (map.get bases q)
aside_get bases k q = aside_by bases k (map.get bases k) refl q

aside_none : (o : Option Base) → standing_value (option_map set_aside o) ≡ None
aside_none None = refl
aside_none (Some base) = refl

aside_value : (o : Option Base) → value_of (option_map set_aside o) ≡ value_of o
aside_value None = refl
aside_value (Some base) = refl

-- at each name by itself: the name, or another
at_name : {A : Type 0} (q k : List ℕ) (x y : A) → (same q k ≡ true → x ≡ y) → (same q k ≡ false → x ≡ y) → x ≡ y
at_name q k x y here elsewhere = ⊎_elim here elsewhere (cases_Bool (same q k))

module _ (bases : Bases) (k : List ℕ) where
  aside_here : (q : List ℕ) → same q k ≡ true → map.get (with_aside bases k) q ≡ option_map set_aside (map.get bases k)
  aside_here q y = aside_get bases k q ∙ cond-true (same q k) _ (map.get bases q) y

  aside_other : (q : List ℕ) → same q k ≡ false → map.get (with_aside bases k) q ≡ map.get bases q
  aside_other q n = aside_get bases k q ∙ cond-false (same q k) (option_map set_aside (map.get bases k)) _ n

  itself : same k k ≡ true
  itself = (eq_by_cmp_equiv nat_list_cmp_total).refl k

  -- it isn't there any more
  pub aside_gone : standing_value (map.get (with_aside bases k) k) ≡ None
  aside_gone = ap standing_value (aside_here k itself) ∙ aside_none (map.get bases k)

  -- its base value stays
  pub aside_values : values_of (with_aside bases k) ≡ values_of bases
  aside_values = alike _ _ (λ q. values_get (with_aside bases k) q ∙ at_name q k (value_of (map.get (with_aside bases k) q)) (value_of (map.get bases q))
      (λ y. ap value_of (aside_here q y) ∙ aside_value (map.get bases k) ∙ ap value_of (tied bases q k y))
      (λ n. ap value_of (aside_other q n))
      ∙ sym (values_get bases q))

  -- a base scalar that is set aside, of which a copy stands beside the others, is the variable that it was
  pub aside_together : (own : Table) (v : List ℕ) → standing_value (map.get bases k) ≡ Some v → together (with_aside bases k) (map.insert own k (Scalar v)) ≡ together bases own
  aside_together own v stood = alike _ _ (λ q.
      together_get (with_aside bases k) (map.insert own k (Scalar v)) q
      ∙ at_name q k (shown (standing_value (map.get (with_aside bases k) q)) (map.get (map.insert own k (Scalar v)) q)) (shown (standing_value (map.get bases q)) (map.get own q))
      (λ y. ap (λ o. shown (standing_value o) (map.get (map.insert own k (Scalar v)) q)) (aside_here q y)
      ∙ ap (λ o. shown o (map.get (map.insert own k (Scalar v)) q)) (aside_none (map.get bases k))
      ∙ get-insert nat_list_cmp_total own k (Scalar v) q ∙ cond-true (same q k) (Some (Scalar v)) (map.get own q) y
      ∙ sym (ap (λ o. shown o (map.get own q)) (ap standing_value (sym (tied bases q k y)) ∙ stood)))
      (λ n. ap (λ o. shown (standing_value o) (map.get (map.insert own k (Scalar v)) q)) (aside_other q n)
      ∙ ap (shown (standing_value (map.get bases q))) (get-insert nat_list_cmp_total own k (Scalar v) q ∙ cond-false (same q k) (Some (Scalar v)) (map.get own q) n))
      ∙ sym (together_get bases own q))

  -- a base scalar that is set aside, and of which nothing stands beside the others, is gone
  pub aside_taken : (own : Table) → together (with_aside bases k) (map.remove own k) ≡ map.remove (together bases own) k
  aside_taken own = alike _ _ (λ q.
      together_get (with_aside bases k) (map.remove own k) q
      ∙ at_name q k (shown (standing_value (map.get (with_aside bases k) q)) (map.get (map.remove own k) q)) (cond (same q k) None (map.get (together bases own) q))
      (λ y. ap (λ o. shown (standing_value o) (map.get (map.remove own k) q)) (aside_here q y)
      ∙ ap (λ o. shown o (map.get (map.remove own k) q)) (aside_none (map.get bases k))
      ∙ get-remove nat_list_cmp_total own k q ∙ cond-true (same q k) None (map.get own q) y
      ∙ sym (cond-true (same q k) None (map.get (together bases own) q) y))
      (λ n. ap (λ o. shown (standing_value o) (map.get (map.remove own k) q)) (aside_other q n)
      ∙ ap (shown (standing_value (map.get bases q))) (get-remove nat_list_cmp_total own k q ∙ cond-false (same q k) None (map.get own q) n)
      ∙ sym (cond-false (same q k) None (map.get (together bases own) q) n ∙ together_get bases own q))
      ∙ sym (get-remove nat_list_cmp_total (together bases own) k q))

-- ---- a change beside the base scalars

module _ (bases : Bases) (k : List ℕ) (gone : standing_value (map.get bases k) ≡ None) where
  unshown : (q : List ℕ) (o : Option Variable) → same q k ≡ true → shown (standing_value (map.get bases q)) o ≡ o
  unshown q o y = ap (λ f. shown f o) (ap standing_value (sym (tied bases q k y)) ∙ gone)

  pub get_beside : (own : Table) → map.get (together bases own) k ≡ map.get own k
  get_beside own = together_get bases own k ∙ ap (λ f. shown f (map.get own k)) gone

  pub put_beside : (own : Table) (v : Variable) → together bases (map.insert own k v) ≡ map.insert (together bases own) k v
  put_beside own v = alike _ _ (λ q.
      together_get bases (map.insert own k v) q
      ∙ ap (shown (standing_value (map.get bases q))) (get-insert nat_list_cmp_total own k v q)
      ∙ at_name q k (shown (standing_value (map.get bases q)) (cond (same q k) (Some v) (map.get own q))) (cond (same q k) (Some v) (shown (standing_value (map.get bases q)) (map.get own q)))
      (λ y. unshown q (cond (same q k) (Some v) (map.get own q)) y ∙ cond-true (same q k) (Some v) (map.get own q) y
      ∙ sym (cond-true (same q k) (Some v) (shown (standing_value (map.get bases q)) (map.get own q)) y))
      (λ n. ap (shown (standing_value (map.get bases q))) (cond-false (same q k) (Some v) (map.get own q) n)
      ∙ sym (cond-false (same q k) (Some v) (shown (standing_value (map.get bases q)) (map.get own q)) n))
      ∙ ap (cond (same q k) (Some v)) (sym (together_get bases own q))
      ∙ sym (get-insert nat_list_cmp_total (together bases own) k v q))

  pub take_beside : (own : Table) → together bases (map.remove own k) ≡ map.remove (together bases own) k
  take_beside own = alike _ _ (λ q.
      together_get bases (map.remove own k) q
      ∙ ap (shown (standing_value (map.get bases q))) (get-remove nat_list_cmp_total own k q)
      ∙ at_name q k (shown (standing_value (map.get bases q)) (cond (same q k) None (map.get own q))) (cond (same q k) None (shown (standing_value (map.get bases q)) (map.get own q)))
      (λ y. unshown q (cond (same q k) None (map.get own q)) y ∙ cond-true (same q k) None (map.get own q) y
      ∙ sym (cond-true (same q k) None (shown (standing_value (map.get bases q)) (map.get own q)) y))
      (λ n. ap (shown (standing_value (map.get bases q))) (cond-false (same q k) None (map.get own q) n)
      ∙ sym (cond-false (same q k) None (shown (standing_value (map.get bases q)) (map.get own q)) n))
      ∙ ap (cond (same q k) None) (sym (together_get bases own q))
      ∙ sym (get-remove nat_list_cmp_total (together bases own) k q))

-- what a name finds, where its variable is none of the base scalars
pub found_beside : (bases : Bases) (own : Table) (name : Named) → standing_value (map.get bases (variable_name name)) ≡ None → found (together bases own) name ≡ found own name
found_beside bases own (Whole name) gone = ap whole (get_beside bases name gone own)
found_beside bases own (Element array index) gone = ap (λ o. element o index) (get_beside bases array gone own)

-- what it finds where its variable is one of them
abbrev pub found_scalar : Named → List ℕ → Found
found_scalar (Whole name) value = Value value
found_scalar (Element array index) value = InScalar

pub found_base : (bases : Bases) (own : Table) (name : Named) (v : List ℕ) → standing_value (map.get bases (variable_name name)) ≡ Some v → found (together bases own) name ≡ found_scalar name v
found_base bases own (Whole name) v stands = ap whole (together_get bases own name ∙ ap (λ f. shown f (map.get own name)) stands)
found_base bases own (Element array index) v stands = ap (λ o. element o index) (together_get bases own array ∙ ap (λ f. shown f (map.get own array)) stands)

pub value_beside : (bases : Bases) (own : Table) (name : Named) (value : List ℕ) → standing_value (map.get bases (variable_name name)) ≡ None
    → together bases (with_value own name value) ≡ with_value (together bases own) name value
value_beside bases own (Whole name) value gone = put_beside bases name gone own (Scalar value)
value_beside bases own (Element array index) value gone =
    put_beside bases array gone own (Array (map.insert (elements_in (map.get own array)) index value))
    ∙ ap (λ o. map.insert (together bases own) array (Array (map.insert (elements_in o) index value))) (sym (get_beside bases array gone own))

pub without_beside : (bases : Bases) (own : Table) (name : Named) → standing_value (map.get bases (variable_name name)) ≡ None
    → together bases (without own name) ≡ without (together bases own) name
without_beside bases own (Whole name) gone = take_beside bases name gone own
without_beside bases own (Element array index) gone =
    put_beside bases array gone own (Array (map.remove (elements_in (map.get own array)) index))
    ∙ ap (λ o. map.insert (together bases own) array (Array (map.remove (elements_in o) index))) (sym (get_beside bases array gone own))

pub array_beside : (bases : Bases) (own : Table) (name : List ℕ) (pairs : List (List ℕ)) → standing_value (map.get bases name) ≡ None
    → together bases (with_array own name pairs) ≡ with_array (together bases own) name pairs
array_beside bases own name pairs gone =
    put_beside bases name gone own (Array (with_pairs (elements_in (map.get own name)) pairs))
    ∙ ap (λ o. map.insert (together bases own) name (Array (with_pairs (elements_in o) pairs))) (sym (get_beside bases name gone own))

pub longer_beside : (bases : Bases) (own : Table) (name : Named) (more : List ℕ) → standing_value (map.get bases (variable_name name)) ≡ None
    → together bases (with_longer own name more) ≡ with_longer (together bases own) name more
longer_beside bases own name more gone =
    value_beside bases own name (longer own name more) gone
    ∙ ap (λ f. with_value (together bases own) name (value_there f ++ more)) (sym (found_beside bases own name gone))

-- ---- none at all

pub no_values : (bases : Bases) → bases ≡ map.empty → values_of bases ≡ map.empty
no_values bases none = alike _ _ (λ q.
    values_get bases q ∙ ap (λ m. value_of (map.get m q)) none ∙ ap value_of (get-empty (slice_cmp nat_cmp) q) ∙ sym (get-empty (slice_cmp nat_cmp) q))

pub no_variables : (bases : Bases) (own : Table) → bases ≡ map.empty → own ≡ map.empty → together bases own ≡ map.empty
no_variables bases own none nothing = alike _ _ (λ q.
    together_get bases own q
    ∙ ap (λ m. shown (standing_value (map.get m q)) (map.get own q)) none
    ∙ ap (λ o. shown (standing_value o) (map.get own q)) (get-empty (slice_cmp nat_cmp) q)
    ∙ ap (λ m. map.get m q) nothing)

-- ---- a base scalar more

-- a base scalar that is put, and isn't set aside, is the variable of its name
pub put_base : (bases : Bases) (own : Table) (k : List ℕ) (v : List ℕ) → together (map.insert bases k (record { value = v; aside = false })) own ≡ map.insert (together bases own) k (Scalar v)
put_base bases own k v = alike _ _ (λ q.
    together_get (map.insert bases k (record { value = v; aside = false })) own q
    ∙ ap (λ o. shown (standing_value o) (map.get own q)) (get-insert nat_list_cmp_total bases k (record { value = v; aside = false }) q)
    ∙ first_of (same q k) v (map.get bases q) (map.get own q)
    ∙ ap (cond (same q k) (Some (Scalar v))) (sym (together_get bases own q))
    ∙ sym (get-insert nat_list_cmp_total (together bases own) k (Scalar v) q))
  where
    first_of : (b : Bool) (v : List ℕ) (o : Option Base) (w : Option Variable)
        → shown (standing_value (cond b (Some (record { value = v; aside = false })) o)) w ≡ cond b (Some (Scalar v)) (shown (standing_value o) w)
    first_of true v o w = refl
    first_of false v o w = refl

-- a scalar that is put among others, as variables
pub as_put : (scalars : Scalars) (k v : List ℕ) → as_variables (map.insert scalars k v) ≡ map.insert (as_variables scalars) k (Scalar v)
as_put scalars k v = alike _ _ (λ q.
    as_get (map.insert scalars k v) q
    ∙ ap (option_map Scalar) (get-insert nat_list_cmp_total scalars k v q)
    ∙ first_of (same q k) v (map.get scalars q)
    ∙ ap (cond (same q k) (Some (Scalar v))) (sym (as_get scalars q))
    ∙ sym (get-insert nat_list_cmp_total (as_variables scalars) k (Scalar v) q))
  where
    first_of : (b : Bool) (v : List ℕ) (o : Option (List ℕ)) → option_map Scalar (cond b (Some v) o) ≡ cond b (Some (Scalar v)) (option_map Scalar o)
    first_of true v o = refl
    first_of false v o = refl

-- ---- refusals where the variable is a base scalar

pub write_refused : (name : Named) (v : List ℕ) → base_fault (Some v) name ≡ no_write (found_scalar name v)
write_refused (Whole name) v = refl
write_refused (Element array index) v = refl

-- a change of the variables is one of what contracts see
pub changed : (seen : Globals) (keeps : List Kept) (t u : Table) (F : Table → Table) → ◌≡◌ {A = Globals} (record { table = t; keeps = keeps }) seen → u ≡ F t
    → ◌≡◌ {A = Globals} (record { table = u; keeps = keeps }) (record seen { table = F seen.table })
changed seen keeps t u F is e =
    ap (λ x. record { table = x; keeps = keeps }) e ∙ ap (λ (g : Globals). record g { table = F g.table }) is

-- where a base scalar stands, a name can be removed exactly where it is the whole one
pub removal_refused : (bases : Bases) (own : Table) (name : Named) → IsSome (standing_value (map.get bases (variable_name name)))
    → no_removal (found (together bases own) name) ≡ base_fault (Some []) name
removal_refused bases own name there = by (standing_value (map.get bases (variable_name name))) refl there
  where
    of : (name : Named) (v : List ℕ) → no_removal (found_scalar name v) ≡ base_fault (Some []) name
    of (Whole n) v = refl
    of (Element array index) v = refl

    by : (o : Option (List ℕ)) → standing_value (map.get bases (variable_name name)) ≡ o → IsSome o → no_removal (found (together bases own) name) ≡ base_fault (Some []) name
    by None e h = absurd (true≢false (sym h))
    by (Some v) e h = ap no_removal (found_base bases own name v e) ∙ of name v

-- and then no array can be written
pub array_refused : (bases : Bases) (own : Table) (name v : List ℕ) → standing_value (map.get bases name) ≡ Some v → no_array (found (together bases own) (Whole name)) ≡ Some NotArray
array_refused bases own name v stands = ap no_array (found_base bases own (Whole name) v stands)

-- a refusal where a base scalar stands is that of a write
refused_alike : (A B : Type 0) (fault : Option VarFault) (e : VarFault) → IsRefusedFor {A = A} fault (Err e) → IsRefusedFor {A = B} fault (Err e)
refused_alike A B fault NoVariable h = h
refused_alike A B fault IsArray h = h
refused_alike A B fault NotArray h = h
refused_alike A B fault Exists h = h
refused_alike A B fault NoMemory h = h

pub refused_write : (A B : Type 0) (bases : Bases) (own : Table) (name : Named) (e : VarFault) → IsSome (standing_value (map.get bases (variable_name name)))
    → IsRefusedFor {A = A} (base_fault (standing_value (map.get bases (variable_name name))) name) (Err e) → IsRefusedFor {A = B} (no_write (found (together bases own) name)) (Err e)
refused_write A B bases own name e there h = by (standing_value (map.get bases (variable_name name))) refl there h
  where
    by : (o : Option (List ℕ)) → standing_value (map.get bases (variable_name name)) ≡ o → IsSome o → IsRefusedFor {A = A} (base_fault o name) (Err e) → IsRefusedFor {A = B} (no_write (found (together bases own) name)) (Err e)
    by None is s h = absurd (true≢false (sym s))
    by (Some v) is s h =
        subst (λ f. IsRefusedFor {A = B} f (Err e)) (write_refused name v ∙ sym (ap no_write (found_base bases own name v is))) (refused_alike A B (base_fault (Some v) name) e h)

-- ---- a base scalar that stands

-- it has a base value
stands_valued : (o : Option Base) (value : List ℕ) → Some value ≡ standing_value o → IsSome (value_of o)
stands_valued None value e = absurd (true≢false (ap is_some e))
stands_valued (Some base) value e = refl

-- a keep of its name stands
pub standing_kept : (bases : Bases) (keeps : List Kept) (name value : List ℕ) → values_of bases ≡ base_of keeps → Some value ≡ standing_value (map.get bases name)
    → IsBase keeps name
standing_kept bases keeps name value known is =
    subst (λ (m : Scalars). IsSome (map.get m name)) known
    (subst (λ o. IsSome o) (sym (values_get bases name)) (stands_valued (map.get bases name) value is))
