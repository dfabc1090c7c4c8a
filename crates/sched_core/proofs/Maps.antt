-- Maps of entries as sets of entries.
use Rattle.std.proofs.Common.{◌≡◌, ◌≢◌, ◌⊎◌, ◌↔◌, ℕ, Bool, true, false, cond, ◌||◌, List, [], ◌∷◌, ◌++◌, Option, None, Some, refl, sym, ap, ◌∙◌, subst, inl, inr, ⊎_elim}
use Rattle.std.specs.List.{Contains, list_any}
use Rattle.std.specs.Ordering.{eq_by_cmp, is_eq}
use Rattle.std.specs.Option.{option_or}
use Rattle.std.specs.Map.{keys_of, update, update_all}
use Rattle.std.specs.BTreeMap.{BTreeMap, get, IsOrdered, Updates}
use Rattle.std.proofs.lemmas.Bool.{cases_Bool, cond-true, cond-false, or_parts, or_cases}
use Rattle.std.proofs.lemmas.Cmp.{eq_by_cmp_equiv, tied_itself}
use Rattle.std.proofs.lemmas.Map.Keys.{IsDistinct-from_sorted}
use Rattle.std.proofs.lemmas.Map.Made.{update_all_distinct}
use Rattle.std.proofs.lemmas.Map.Lookups.{btree_map_from_get}
use Rattle.std.proofs.lemmas.Map.Views.{btree_map_get_iff, tells_apart}
use Rattle.sched_core.specs.declared.plan.Plan.{Plan}
use Rattle.sched_core.specs.Entries.{Entry, key_cmp}
use Rattle.sched_core.proofs.Keys.{key_total, key_exact}
use Rattle.sched_core.proofs.Members.{here, there}

abbrev pub Map : Type 0
Map = BTreeMap (ℕ × ℕ) Plan

-- what the map finds is what it contains
pub found : (m : Map) → IsOrdered key_cmp m → (k : ℕ × ℕ) (v : Plan) → (get key_cmp m k ≡ Some v) ↔ Contains m.entries (k, v)
found m o k v = btree_map_get_iff key_total key_exact m o k v

same_key : (k q : ℕ × ℕ) → eq_by_cmp key_cmp k q ≡ true → k ≡ q
same_key k q t = tells_apart key_exact k q t

itself : (k q : ℕ × ℕ) → k ≡ q → eq_by_cmp key_cmp k q ≡ true
itself k q same = ap is_eq (ap (key_cmp k) (sym same) ∙ tied_itself key_total k)

-- an entry put in at a new key
pub put : (m n : Map) (k : ℕ × ℕ) (v : Plan) → IsOrdered key_cmp m → IsOrdered key_cmp n → Updates key_cmp m n k (Some v) → ((e : Entry) → Contains m.entries e → e.0 ≢ k)
    → (e : Entry) → Contains n.entries e ↔ (Contains m.entries e ⊎ (e ≡ (k, v)))
put m n k v om on up absent e = (
  λ i.
      let g : get key_cmp n e.0 ≡ Some e.1 = (found n on e.0 e.1).1 i in
      ⊎_elim
      (λ (t : eq_by_cmp key_cmp k e.0 ≡ true).
      let same : k ≡ e.0 = same_key k e.0 t in
      let value : Path (Option Plan) (Some v) (Some e.1) = sym (cond-true (eq_by_cmp key_cmp k e.0) (Some v) (get key_cmp m e.0) t) ∙ (sym (up.0 e.0) ∙ g) in
      let is : v ≡ e.1 = cc in
      inr (λ j. (sym same j, sym is j)))
      (λ (f : eq_by_cmp key_cmp k e.0 ≡ false). inl ((found m om e.0 e.1).0 (sym (up.2 e.0 f) ∙ g))) (cases_Bool (eq_by_cmp key_cmp k e.0)),
  λ h. ⊎_elim
      (λ (old : Contains m.entries e). ⊎_elim
      (λ (t : eq_by_cmp key_cmp k e.0 ≡ true). absurd (absent e old (sym (same_key k e.0 t))))
      (λ (f : eq_by_cmp key_cmp k e.0 ≡ false). (found n on e.0 e.1).0 (up.2 e.0 f ∙ (found m om e.0 e.1).1 old)) (cases_Bool (eq_by_cmp key_cmp k e.0)))
      (λ (new : e ≡ (k, v)). subst (λ (x : Entry). Contains n.entries x) (sym new) ((found n on k v).0 up.1)) h,
)

-- the entry at a key taken out
pub taken : (m n : Map) (k : ℕ × ℕ) → IsOrdered key_cmp m → IsOrdered key_cmp n → Updates key_cmp m n k None
    → (e : Entry) → Contains n.entries e ↔ (Contains m.entries e × (e.0 ≢ k))
taken m n k om on up e = (
  λ i.
      let g : get key_cmp n e.0 ≡ Some e.1 = (found n on e.0 e.1).1 i in
      ⊎_elim
      (λ (t : eq_by_cmp key_cmp k e.0 ≡ true).
      let none : Path (Option Plan) None (Some e.1) = sym (cond-true (eq_by_cmp key_cmp k e.0) None (get key_cmp m e.0) t) ∙ (sym (up.0 e.0) ∙ g) in cc)
      (λ (f : eq_by_cmp key_cmp k e.0 ≡ false). ((found m om e.0 e.1).0 (sym (up.2 e.0 f) ∙ g), λ same. let x : Path Bool true false = sym (itself k e.0 (sym same)) ∙ f in cc)) (cases_Bool (eq_by_cmp key_cmp k e.0)),
  λ h. ⊎_elim
      (λ (t : eq_by_cmp key_cmp k e.0 ≡ true). absurd (h.1 (sym (same_key k e.0 t))))
      (λ (f : eq_by_cmp key_cmp k e.0 ≡ false). (found n on e.0 e.1).0 (up.2 e.0 f ∙ (found m om e.0 e.1).1 h.0)) (cases_Bool (eq_by_cmp key_cmp k e.0)),
)

-- all entries of another map put in
pub taken_in : (m x n : Map) → IsOrdered key_cmp m → IsOrdered key_cmp x → IsOrdered key_cmp n
    → ((q : ℕ × ℕ) → get key_cmp n q ≡ update_all (eq_by_cmp key_cmp) (get key_cmp m) x.entries q)
    → ((e f : Entry) → Contains m.entries e → Contains x.entries f → e.0 ≢ f.0)
    → (e : Entry) → Contains n.entries e ↔ (Contains m.entries e ⊎ Contains x.entries e)
taken_in m x n om ox on all apart e =
    let is : get key_cmp n e.0 ≡ option_or (get key_cmp x e.0) (get key_cmp m e.0) = all e.0 ∙ update_all_distinct (eq_by_cmp_equiv key_total) (eq_by_cmp key_cmp) (λ a b. refl) (get key_cmp m) x.entries e.0 (IsDistinct-from_sorted key_cmp (keys_of x.entries) ox) in
    let go : (o : Option Plan) → get key_cmp x e.0 ≡ o → get key_cmp n e.0 ≡ option_or o (get key_cmp m e.0) → Contains n.entries e ↔ (Contains m.entries e ⊎ Contains x.entries e) = λ o. elim o as (λ o. get key_cmp x e.0 ≡ o → get key_cmp n e.0 ≡ option_or o (get key_cmp m e.0) → Contains n.entries e ↔ (Contains m.entries e ⊎ Contains x.entries e)) [
      | None ↦ λ none at. (
        λ i. inl ((found m om e.0 e.1).0 (sym at ∙ (found n on e.0 e.1).1 i)),
        λ h. ⊎_elim
            (λ (i : Contains m.entries e). (found n on e.0 e.1).0 (at ∙ (found m om e.0 e.1).1 i))
            (λ (i : Contains x.entries e). let c : Path (Option Plan) None (Some e.1) = sym none ∙ (found x ox e.0 e.1).1 i in cc) h,
      )
      | Some w ↦ λ some at. (
        λ i. let v : Path (Option Plan) (Some w) (Some e.1) = sym at ∙ (found n on e.0 e.1).1 i in inr ((found x ox e.0 e.1).0 (some ∙ v)),
        λ h. ⊎_elim
            (λ (i : Contains m.entries e). absurd (apart e (e.0, w) i ((found x ox e.0 w).0 some) refl))
            (λ (i : Contains x.entries e). let v : Path (Option Plan) (Some w) (Some e.1) = sym some ∙ (found x ox e.0 e.1).1 i in (found n on e.0 e.1).0 (at ∙ v)) h,
      )
    ] in go (get key_cmp x e.0) refl is

-- pairs of other keys change nothing at a key
untouched : (f : ℕ × ℕ → Option Plan) (xs : List Entry) (q : ℕ × ℕ) → list_any (λ k. eq_by_cmp key_cmp k q) (keys_of xs) ≡ false → update_all (eq_by_cmp key_cmp) f xs q ≡ f q
untouched f [] q h = refl
untouched f (x ∷ xs) q h =
    let parts = or_parts (eq_by_cmp key_cmp x.0 q) (list_any (λ k. eq_by_cmp key_cmp k q) (keys_of xs)) h in
    untouched (update (eq_by_cmp key_cmp) f x.0 (Some x.1)) xs q parts.1 ∙ cond-false (eq_by_cmp key_cmp x.0 q) (Some x.1) (f q) parts.0

-- a key that a test finds among the keys of two lists together, is in the first
any_front : (test : ℕ × ℕ → Bool) (xs ys : List Entry) → list_any test (keys_of (xs ++ ys)) ≡ false → list_any test (keys_of xs) ≡ false
any_front test [] ys h = refl
any_front test (x ∷ xs) ys h =
    let parts = or_parts (test x.0) (list_any test (keys_of (xs ++ ys))) h in
    Rattle.std.proofs.lemmas.Bool.or_from (test x.0) (list_any test (keys_of xs)) parts.0 (any_front test xs ys parts.1)

-- the entry of a key that was found
pub entry_at : (es : List Entry) (q : ℕ × ℕ) → list_any (λ k. eq_by_cmp key_cmp k q) (keys_of es) ≡ true → (e : Entry) × Contains es e × (e.0 ≡ q)
entry_at [] q h = let x : Path Bool false true = h in cc
entry_at (x ∷ xs) q h = ⊎_elim
    (λ (t : eq_by_cmp key_cmp x.0 q ≡ true). (x, here x xs, same_key x.0 q t))
    (λ (t : list_any (λ k. eq_by_cmp key_cmp k q) (keys_of xs) ≡ true). let r = entry_at xs q t in (r.0, there x xs r.0 r.1, r.2)) (or_cases (eq_by_cmp key_cmp x.0 q) (list_any (λ k. eq_by_cmp key_cmp k q) (keys_of xs)) h)

-- some of the entries put in, and all their keys taken out again
pub put_back : (m n r : Map) (xs ys all : List Entry) → IsOrdered key_cmp m → IsOrdered key_cmp r → all ≡ xs ++ ys
    → ((q : ℕ × ℕ) → get key_cmp n q ≡ update_all (eq_by_cmp key_cmp) (get key_cmp m) xs q)
    → ((q : ℕ × ℕ) → get key_cmp r q ≡ cond (list_any (λ k. eq_by_cmp key_cmp k q) (keys_of all)) None (get key_cmp n q))
    → ((e f : Entry) → Contains m.entries e → Contains all f → e.0 ≢ f.0) → r.entries ≡ m.entries
put_back m n r xs ys all om or is put out apart = btree_map_from_get key_total r m or om
    (λ q. ⊎_elim
    (λ (t : list_any (λ k. eq_by_cmp key_cmp k q) (keys_of all) ≡ true).
    let at = entry_at all q t in
    let gone : get key_cmp r q ≡ None = out q ∙ cond-true (list_any (λ k. eq_by_cmp key_cmp k q) (keys_of all)) None (get key_cmp n q) t in
    let go : (o : Option Plan) → get key_cmp m q ≡ o → None ≡ o = λ o. elim o as (λ o. get key_cmp m q ≡ o → None ≡ o) [
      | None ↦ λ e. refl
      | Some v ↦ λ e. absurd (apart (q, v) at.0 ((found m om q v).0 e) at.1 (sym at.2))
    ] in gone ∙ go (get key_cmp m q) refl)
    (λ (f : list_any (λ k. eq_by_cmp key_cmp k q) (keys_of all) ≡ false).
    let front = any_front (λ k. eq_by_cmp key_cmp k q) xs ys (subst (λ (z : List Entry). list_any (λ k. eq_by_cmp key_cmp k q) (keys_of z) ≡ false) is f) in
    out q ∙ (cond-false (list_any (λ k. eq_by_cmp key_cmp k q) (keys_of all)) None (get key_cmp n q) f ∙ (put q ∙ untouched (get key_cmp m) xs q front))) (cases_Bool (list_any (λ k. eq_by_cmp key_cmp k q) (keys_of all)))) key_exact

joined : (x : Option Plan) (a b : Bool) → cond b None (cond a None x) ≡ cond (a || b) None x
joined x true true = refl
joined x true false = refl
joined x false true = refl
joined x false false = refl

-- one key more taken out
pub removed_more : (a b both : Bool) (x old new : Option Plan) → old ≡ cond a None x → new ≡ cond b None old → both ≡ (a || b) → new ≡ cond both None x
removed_more a b both x old new e f g = f ∙ (ap (λ (z : Option Plan). cond b None z) e ∙ (joined x a b ∙ sym (ap (λ (z : Bool). cond z None x) g)))
