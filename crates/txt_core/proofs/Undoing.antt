-- What undoing writes brings back.
use Rattle.std.proofs.Common.{◌≡◌, ℕ, Bool, true, false, List, [], ◌∷◌, ◌++◌, refl, sym, ap, ◌∙◌, cond, is_some}
use Rattle.std.specs.Prelude.{Option, Some, None, if◌then◌else◌}
use Rattle.std.specs.Ordering.{nat_cmp, is_eq}
use Rattle.std.specs.Cmp.{eq_by_cmp_equiv, Equal-is}
use Rattle.std.specs.Cmp.Lexicographic.{slice_cmp, nat_list_cmp_total}
use Rattle.std.specs.FinMap as map
use Rattle.std.specs.FinMap.{FinMap, get-insert, get-remove, get_tied, same_map}
use Rattle.std.proofs.lemmas.Bool.{cond-true}
use Rattle.std.proofs.lemmas.Map.Lookups.{exact_bytes}
use Rattle.txt_core.specs.declared.keyed.Change.{Change}
use Rattle.txt_core.specs.Keyed.{Texts, given_back}
use Rattle.txt_core.specs.Undoing.{undone}

-- of two changes at one place the second stands, and it stands for what was there before
second : {A : Type 0} (b : Bool) (later first was : A) → (b ≡ true → later ≡ was) → cond b later (cond b first was) ≡ was
second true later first was h = h refl
second false later first was h = refl

module _ {V : Type 0} (m : FinMap (slice_cmp nat_cmp) V) (k : List ℕ) (v : V) where
  same_at : (q : List ℕ) → is_eq (slice_cmp nat_cmp q k) ≡ true → map.get m k ≡ map.get m q
  same_at q y = get_tied nat_list_cmp_total m q k ((Equal-is (slice_cmp nat_cmp q k)).0 y)

  get_put : map.get (map.insert m k v) k ≡ Some v
  get_put = get-insert nat_list_cmp_total m k v k ∙ cond-true (is_eq (slice_cmp nat_cmp k k)) (Some v) (map.get m k) ((eq_by_cmp_equiv nat_list_cmp_total).refl k)

  -- a key that was put and is taken away, where it had nothing before
  pub put_and_taken : map.get m k ≡ None → map.remove (map.insert m k v) k ≡ m
  put_and_taken had = same_map nat_list_cmp_total exact_bytes _ _ (λ q.
      get-remove nat_list_cmp_total (map.insert m k v) k q
      ∙ ap (cond (is_eq (slice_cmp nat_cmp q k)) None) (get-insert nat_list_cmp_total m k v q)
      ∙ second (is_eq (slice_cmp nat_cmp q k)) None (Some v) (map.get m q) (λ y. sym had ∙ same_at q y))

  -- a key that was put and then has again what it had before
  pub put_and_put : (w : V) → map.get m k ≡ Some w → map.insert (map.insert m k v) k w ≡ m
  put_and_put w had = same_map nat_list_cmp_total exact_bytes _ _ (λ q.
      get-insert nat_list_cmp_total (map.insert m k v) k w q
      ∙ ap (cond (is_eq (slice_cmp nat_cmp q k)) (Some w)) (get-insert nat_list_cmp_total m k v q)
      ∙ second (is_eq (slice_cmp nat_cmp q k)) (Some w) (Some v) (map.get m q) (λ y. sym had ∙ same_at q y))

  given_back_by : (o : Option V) → map.get m k ≡ o → given_back (map.insert m k v) k o ≡ m
  given_back_by None had = put_and_taken had
  given_back_by (Some w) had =
      ap (λ o. if is_some o then map.insert (map.insert m k v) k w else map.insert m k v) get_put ∙ put_and_put w had

  -- a key that is given back what it had before a write
  pub given_back_written : given_back (map.insert m k v) k (map.get m k) ≡ m
  given_back_written = given_back_by (map.get m k) refl

-- the last change is undone first
pub undone_last : (changes : List Change) (change : Change) (texts : Texts)
    → undone (changes ++ change ∷ []) texts ≡ undone changes (given_back texts change.key.now change.before)
undone_last [] change texts = refl
undone_last (first ∷ changes) change texts = ap (λ m. given_back m first.key.now first.before) (undone_last changes change texts)

-- a write that is noted is undone
pub undone_written : (changes : List Change) (change : Change) (texts : Texts) (text : List ℕ)
    → change.before ≡ map.get texts change.key.now
    → undone (changes ++ change ∷ []) (map.insert texts change.key.now text) ≡ undone changes texts
undone_written changes change texts text noted =
    let key = change.key.now in
    undone_last changes change (map.insert texts key text)
    ∙ ap (undone changes) (ap (given_back (map.insert texts key text) key) noted ∙ given_back_written texts key text)
