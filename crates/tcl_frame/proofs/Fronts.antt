-- What variables in a list, in front of others, are together, and what becomes of them when one changes.
use Rattle.std.proofs.Common.{◌≡◌, ℕ, zero, suc, ◌<◌, Bool, true, false, List, [], ◌∷◌, ◌++◌, length, get_or, set, filter, refl, sym, ap, subst, ◌∙◌, cond, arith, not, is_some}
use Rattle.std.specs.Prelude.{Option, Some, None, find, position}
use Rattle.std.specs.Ordering.{nat_cmp}
use Rattle.std.specs.Cmp.{Equal-is}
use Rattle.std.specs.Cmp.Lexicographic.{slice_cmp, nat_list_cmp_total}
use Rattle.std.specs.Str.{bytes_eq}
use Rattle.std.specs.FinMap as map
use Rattle.std.specs.FinMap.{FinMap, get-insert, get-remove}
use Rattle.std.proofs.lemmas.List.{set-get_or}
use Rattle.std.proofs.lemmas.Bool.{true≢false, ltb-false}
use Rattle.std.proofs.lemmas.Option.{slice_get_past}
use Rattle.std.proofs.lemmas.List.Folds.{find_at}
use Rattle.std.proofs.lemmas.List.Quantifiers.{position-Some}
use Rattle.std.proofs.lemmas.Map.Lookups.{exact_bytes}
use Rattle.std.proofs.lemmas.Map.Text.{is_eq-slice_cmp}
use Rattle.tcl_frame.specs.declared.few.Entry.{Entry}
use Rattle.tcl_frame.specs.declared.variable.Variable.{Variable}
use Rattle.tcl_frame.specs.Variables.{Table}
use Rattle.tcl_frame.specs.Few.{is_named, in_front}
use Rattle.tcl_frame.proofs.Bases.{same, alike}
use Rattle.tcl_frame.proofs.Changes.{get_put}

-- ---- two changes of a map

-- of two changes at one key the later one stands
later : {A : Type 0} (b : Bool) (x y z : A) → cond b x (cond b y z) ≡ cond b x z
later true x y z = refl
later false x y z = refl

-- changes at two keys may come in either order
either : {A : Type 0} (a b : Bool) (x y z : A) → (a ≡ true → b ≡ false) → cond b y (cond a x z) ≡ cond a x (cond b y z)
either true true x y z apart = absurd (true≢false (apart refl))
either true false x y z apart = refl
either false b x y z apart = refl

-- a key that is the same as one is the same as another as little as that one
not_both : (k j q : List ℕ) → same k j ≡ false → same q k ≡ true → same q j ≡ false
not_both k j q n y = subst (λ x. same x j ≡ false) (sym (exact_bytes q k ((Equal-is (slice_cmp nat_cmp q k)).0 y))) n

module _ {V : Type 0} (m : FinMap (slice_cmp nat_cmp) V) (k : List ℕ) where
  put_twice : (v w : V) → map.insert (map.insert m k v) k w ≡ map.insert m k w
  put_twice v w = alike _ _ (λ q.
      get-insert nat_list_cmp_total (map.insert m k v) k w q
      ∙ ap (cond (same q k) (Some w)) (get-insert nat_list_cmp_total m k v q)
      ∙ later (same q k) (Some w) (Some v) (map.get m q)
      ∙ sym (get-insert nat_list_cmp_total m k w q))

  put_apart : (j : List ℕ) (v w : V) → same k j ≡ false → map.insert (map.insert m k v) j w ≡ map.insert (map.insert m j w) k v
  put_apart j v w n = alike _ _ (λ q.
      get-insert nat_list_cmp_total (map.insert m k v) j w q
      ∙ ap (cond (same q j) (Some w)) (get-insert nat_list_cmp_total m k v q)
      ∙ either (same q k) (same q j) (Some v) (Some w) (map.get m q) (not_both k j q n)
      ∙ ap (cond (same q k) (Some v)) (sym (get-insert nat_list_cmp_total m j w q))
      ∙ sym (get-insert nat_list_cmp_total (map.insert m j w) k v q))

  taken_put : (v : V) → map.remove (map.insert m k v) k ≡ map.remove m k
  taken_put v = alike _ _ (λ q.
      get-remove nat_list_cmp_total (map.insert m k v) k q
      ∙ ap (cond (same q k) None) (get-insert nat_list_cmp_total m k v q)
      ∙ later (same q k) None (Some v) (map.get m q)
      ∙ sym (get-remove nat_list_cmp_total m k q))

  taken_apart : (j : List ℕ) (w : V) → same k j ≡ false → map.insert (map.remove m k) j w ≡ map.remove (map.insert m j w) k
  taken_apart j w n = alike _ _ (λ q.
      get-insert nat_list_cmp_total (map.remove m k) j w q
      ∙ ap (cond (same q j) (Some w)) (get-remove nat_list_cmp_total m k q)
      ∙ either (same q k) (same q j) None (Some w) (map.get m q) (not_both k j q n)
      ∙ ap (cond (same q k) None) (sym (get-insert nat_list_cmp_total m j w q))
      ∙ sym (get-remove nat_list_cmp_total (map.insert m j w) k q))

-- ---- names

-- the name of a variable that has it
name_of : (q : List ℕ) (entry : Entry) → is_named q entry ≡ true → q ≡ entry.name
name_of q entry y = exact_bytes q entry.name ((Equal-is (slice_cmp nat_cmp q entry.name)).0 (is_eq-slice_cmp q entry.name ∙ y))

apart_from : (q : List ℕ) (entry : Entry) → is_named q entry ≡ false → same q entry.name ≡ false
apart_from q entry n = is_eq-slice_cmp q entry.name ∙ n

-- ---- what is there

-- the variable of a name, by the first in the list and by what stands behind it
abbrev pub first_or : Option Entry → Option Variable → Option Variable
first_or None behind = behind
first_or (Some entry) behind = Some entry.variable

first_chosen : (b : Bool) (entry : Entry) (first : Option Entry) (behind : Option Variable)
    → cond b (Some entry.variable) (first_or first behind) ≡ first_or (cond b (Some entry) first) behind
first_chosen true entry first behind = refl
first_chosen false entry first behind = refl

pub front_get : (few : List Entry) (table : Table) (q : List ℕ) → map.get (in_front few table) q ≡ first_or (find (is_named q) few) (map.get table q)
front_get [] table q = refl
front_get (entry ∷ few) table q =
    get-insert nat_list_cmp_total (in_front few table) entry.name entry.variable q
    ∙ ap (cond (same q entry.name) (Some entry.variable)) (front_get few table q)
    ∙ ap (λ b. cond b (Some entry.variable) (first_or (find (is_named q) few) (map.get table q))) (is_eq-slice_cmp q entry.name)
    ∙ first_chosen (bytes_eq q entry.name) entry (find (is_named q) few) (map.get table q)

-- ---- a variable of the list is changed

front_changed : (few : List Entry) (table : Table) (q : List ℕ) (at : ℕ) (entry : Entry) (w : Variable)
    → at < length few → entry ≡ get_or few at entry → is_named q entry ≡ true → ((k : ℕ) → k < at → is_named q (get_or few k entry) ≡ false)
    → in_front (set few at (record entry { variable = w })) table ≡ map.insert (in_front few table) q w
front_changed [] table q at entry w within is named before = absurd (omega arith)
front_changed (first ∷ few) table q zero entry w within is named before =
    ap (λ k. map.insert (in_front few table) k w) (sym (name_of q entry named))
    ∙ sym (put_twice (in_front few table) q first.variable w)
    ∙ ap (λ k. map.insert (map.insert (in_front few table) k first.variable) q w) (name_of q entry named ∙ ap (λ (e : Entry). e.name) is)
front_changed (first ∷ few) table q (suc at) entry w within is named before =
    ap (λ m. map.insert m first.name first.variable) (front_changed few table q at entry w (omega arith) is named (λ k less. before (suc k) (omega arith)))
    ∙ put_apart (in_front few table) q first.name w first.variable (apart_from q first (before 0 (omega arith)))

-- the first variable of a name, at its place
module _ (few : List Entry) (table : Table) (q : List ℕ) (at : ℕ) (entry : Entry) (place : position (is_named q) few ≡ Some at) (is : entry ≡ get_or few at entry) where
  has_it : is_named q entry ≡ true
  has_it = ap (is_named q) is ∙ (position-Some (is_named q) few at entry place).1

  -- another in its place is another variable of the name
  pub front_put : (w : Variable) → in_front (set few at (record entry { variable = w })) table ≡ map.insert (in_front few table) q w
  front_put w =
      let there = position-Some (is_named q) few at entry place in
      front_changed few table q at entry w there.0 is has_it there.2

  -- it is the variable of the name
  pub front_there : Some entry.variable ≡ map.get (in_front few table) q
  front_there =
      let whole : set few at entry ≡ few = ap (set few at) is ∙ set-get_or few at entry in
      sym (ap (λ f. map.get (in_front f table) q) (sym whole) ∙ ap (λ m. map.get m q) (front_put entry.variable) ∙ get_put (in_front few table) q entry.variable)

-- ---- a new variable

none_first : (first : Option Entry) (behind : Option Variable) → first_or first behind ≡ None → first ≡ None
none_first None behind e = refl
none_first (Some entry) behind e = absurd (true≢false (ap is_some e))

not_first : (b : Bool) (entry : Entry) (first : Option Entry) → cond b (Some entry) first ≡ None → (b ≡ false) × (first ≡ None)
not_first true entry first e = absurd (true≢false (ap is_some e))
not_first false entry first e = (refl, e)

behind_all : (few : List Entry) (table : Table) (q : List ℕ) (v : Variable) → find (is_named q) few ≡ None
    → in_front few (map.insert table q v) ≡ map.insert (in_front few table) q v
behind_all [] table q v none = refl
behind_all (entry ∷ few) table q v none =
    let apart = not_first (is_named q entry) entry (find (is_named q) few) none in
    ap (λ m. map.insert m entry.name entry.variable) (behind_all few table q v apart.1)
    ∙ put_apart (in_front few table) q entry.name v entry.variable (apart_from q entry apart.0)

not_chosen : (b : Bool) (n : ℕ) → cond b (Some n) None ≡ None → b ≡ false
not_chosen true n is = absurd (true≢false (ap is_some is))
not_chosen false n is = refl

not_found : (few : List Entry) (q : List ℕ) → position (is_named q) few ≡ None → find (is_named q) few ≡ None
not_found few q none = find_at (is_named q) few ∙ slice_get_past few _ (ltb-false _ _ (not_chosen _ _ none))

-- a name that has no place in the list
module _ (few : List Entry) (table : Table) (q : List ℕ) (none : position (is_named q) few ≡ None) where
  pub get_past : map.get (in_front few table) q ≡ map.get table q
  get_past = front_get few table q ∙ ap (λ first. first_or first (map.get table q)) (not_found few q none)

  pub put_past : (w : Variable) → in_front few (map.insert table q w) ≡ map.insert (in_front few table) q w
  put_past w = behind_all few table q w (not_found few q none)

-- one that is put behind the list, where its name has none
pub put_behind : (few : List Entry) (table : Table) (q : List ℕ) (v : Variable) → map.get (in_front few table) q ≡ None
    → in_front few (map.insert table q v) ≡ map.insert (in_front few table) q v
put_behind few table q v none = behind_all few table q v (none_first (find (is_named q) few) (map.get table q) (sym (front_get few table q) ∙ none))

last_first : (few : List Entry) (table : Table) (entry : Entry) → in_front (few ++ entry ∷ []) table ≡ in_front few (map.insert table entry.name entry.variable)
last_first [] table entry = refl
last_first (first ∷ few) table entry = ap (λ m. map.insert m first.name first.variable) (last_first few table entry)

-- one that is put at the end of the list, where its name has none
pub put_last : (few : List Entry) (table : Table) (q : List ℕ) (v : Variable) → map.get (in_front few table) q ≡ None
    → in_front (few ++ record { name = q; variable = v } ∷ []) table ≡ map.insert (in_front few table) q v
put_last few table q v none = last_first few table (record { name = q; variable = v }) ∙ put_behind few table q v none

-- ---- a removal

kept_first : (b : Bool) (few : List Entry) (table : Table) (q : List ℕ) (entry : Entry) → is_named q entry ≡ b
    → in_front (filter (λ e. not (is_named q e)) few) (map.remove table q) ≡ map.remove (in_front few table) q
    → in_front (cond (not b) (entry ∷ filter (λ e. not (is_named q e)) few) (filter (λ e. not (is_named q e)) few)) (map.remove table q)
    ≡ map.remove (map.insert (in_front few table) entry.name entry.variable) q
kept_first true few table q entry is rest =
    rest
    ∙ sym (taken_put (in_front few table) q entry.variable)
    ∙ ap (λ k. map.remove (map.insert (in_front few table) k entry.variable) q) (name_of q entry is)
kept_first false few table q entry is rest =
    ap (λ m. map.insert m entry.name entry.variable) rest
    ∙ taken_apart (in_front few table) q entry.name entry.variable (apart_from q entry is)

-- without the variables of the name, in the list and behind it
pub front_taken : (few : List Entry) (table : Table) (q : List ℕ)
    → in_front (filter (λ e. not (is_named q e)) few) (map.remove table q) ≡ map.remove (in_front few table) q
front_taken [] table q = refl
front_taken (entry ∷ few) table q = kept_first (is_named q entry) few table q entry refl (front_taken few table q)
