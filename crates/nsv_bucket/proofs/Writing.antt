-- What writing and removing mean, key by key.
use Rattle.std.proofs.Common.{◌≡◌, ◌≢◌, ℕ, Bool, true, false, cond, is_some, Option, None, Some, List, [], ◌∷◌, refl, sym, ap, ◌∙◌}
use Rattle.std.specs.Str.{bytes_eq}
use Rattle.std.specs.Option.{option_or, unwrap_or}
use Rattle.std.specs.Ordering.{eq_by_cmp, is_eq}
use Rattle.std.specs.declared.cmp.Ordering.TheVariants.{Less, Equal, Greater}
use Rattle.std.specs.Cmp.{tied_itself}
use Rattle.std.specs.Cmp.Lexicographic.{nat_list_cmp_total, texts_ties}
use Rattle.std.specs.FinMap as map
use Rattle.std.specs.FinMap.{FinMap, get-insert, get-remove}
use Rattle.nsv_bucket.specs.Arrays.{text_cmp, Array, Arrays, array_of}
use Rattle.nsv_bucket.specs.Laws.{WritesOne, RemovesOne, WritesPairs, last_value}
use Rattle.nsv_bucket.proofs.Maps.{exact}

same_key : (x : List ℕ) → eq_by_cmp text_cmp x x ≡ true
same_key x = ap is_eq (tied_itself nat_list_cmp_total x)

other_key : (x y : List ℕ) → x ≢ y → eq_by_cmp text_cmp x y ≡ false
other_key x y n = elim (text_cmp x y) as (λ r. text_cmp x y ≡ r → is_eq r ≡ false) [
  | Less ↦ λ e. refl
  | Equal ↦ λ e. absurd (n (exact x y e))
  | Greater ↦ λ e. refl
] refl

module _ {X : Type 0} where
  pub put_same : (m : FinMap text_cmp X) (k : List ℕ) (v : X) → map.get (map.insert m k v) k ≡ Some v
  put_same m k v = get-insert nat_list_cmp_total m k v k ∙ ap (λ b. cond b (Some v) (map.get m k)) (same_key k)

  put_other : (m : FinMap text_cmp X) (k : List ℕ) (v : X) (q : List ℕ) → q ≢ k → map.get (map.insert m k v) q ≡ map.get m q
  put_other m k v q n = get-insert nat_list_cmp_total m k v q ∙ ap (λ b. cond b (Some v) (map.get m q)) (other_key q k n)

  gone_same : (m : FinMap text_cmp X) (k : List ℕ) → map.get (map.remove m k) k ≡ None
  gone_same m k = get-remove nat_list_cmp_total m k k ∙ ap (λ b. cond b None (map.get m k)) (same_key k)

  gone_other : (m : FinMap text_cmp X) (k q : List ℕ) → q ≢ k → map.get (map.remove m k) q ≡ map.get m q
  gone_other m k q n = get-remove nat_list_cmp_total m k q ∙ ap (λ b. cond b None (map.get m q)) (other_key q k n)

placed : (m : Arrays) (name : List ℕ) (a : Array) → array_of (map.insert m name a) name ≡ a
placed m name a = ap (λ o. unwrap_or o map.empty) (put_same m name a)

pub writes_one : (m : Arrays) (name key value : List ℕ) → WritesOne m name key value
writes_one m name key value =
    let array = map.insert (array_of m name) key value in
    record {
      found = ap (λ a. map.get a key) (placed m name array) ∙ put_same (array_of m name) key value;
      other_key = λ other n. ap (λ a. map.get a other) (placed m name array) ∙ put_other (array_of m name) key value other n;
      other_array = λ other n. put_other m name array other n;
    }

pub removes_one : (m : Arrays) (name key : List ℕ) → RemovesOne m name key
removes_one m name key =
    let array = map.remove (array_of m name) key in
    record {
      gone = ap (λ a. map.get a key) (placed m name array) ∙ gone_same (array_of m name) key;
      stands = ap is_some (put_same m name array);
      other_key = λ other n. ap (λ a. map.get a other) (placed m name array) ∙ gone_other (array_of m name) key other n;
      other_array = λ other n. put_other m name array other n;
    }

one_pair : (later was : Option (List ℕ)) (b : Bool) (value : List ℕ) → option_or later (cond b (Some value) was) ≡ option_or (option_or later (cond b (Some value) None)) was
one_pair None was true value = refl
one_pair None was false value = refl
one_pair (Some x) was b value = refl

pub writes_pairs : (array : Array) (pairs : List (List ℕ)) → WritesPairs array pairs
writes_pairs array [] q = refl
writes_pairs array (k ∷ []) q = refl
writes_pairs array (k ∷ v ∷ rest) q =
    writes_pairs (map.insert array k v) rest q
    ∙ ap (option_or (last_value q rest)) (get-insert nat_list_cmp_total array k v q ∙ ap (λ b. cond b (Some v) (map.get array q)) (sym (texts_ties q k)))
    ∙ one_pair (last_value q rest) (map.get array q) (bytes_eq q k) v
