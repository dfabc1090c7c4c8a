-- The finite map that a map of the program holds.
use Rattle.std.proofs.Common.{◌≡◌, Bool, true, false, cond, ℕ, Some, None, List, [], ◌∷◌, length, refl, sym, ap, ◌∙◌, arith}
use Rattle.std.specs.declared.cmp.Ordering.TheVariants.{Less}
use Rattle.std.specs.Cmp.{eq_by_cmp_equiv}
use Rattle.std.specs.Cmp.Lexicographic.{nat_list_cmp_total}
use Rattle.std.specs.FinMap as fin
use Rattle.std.specs.FinMap.{find, slice_cmp-IsAntisymmetric, nat_cmp-IsAntisymmetric, len-entries, len-empty, same_map, get-insert, get-remove, get-from_entries, entries-insert, IsAntisymmetric}
use Rattle.std.specs.Map.{lookup, keys_of, set_value}
use Rattle.std.specs.BTreeMap.{is_at}
use Rattle.std.specs.List.Sorted.{IsStrictlySortedBy}
use Rattle.std.proofs.lemmas.Map.Keys.{sorted_head, sorted_tail}
use Rattle.std.proofs.lemmas.Option.{same_Some}
use Rattle.nsv_bucket.specs.Arrays.{text_cmp}

pub exact : IsAntisymmetric text_cmp
exact = slice_cmp-IsAntisymmetric nat_cmp-IsAntisymmetric

module _ {X : Type 0} where
  pub found_is : (es : List (List ℕ × X)) (q : List ℕ) → find text_cmp q es ≡ lookup (is_at (text_cmp q)) es
  found_is [] q = refl
  found_is (e ∷ es) q = ap (cond (is_at (text_cmp q) e.0) (Some e.1)) (found_is es q)

  -- what the finite map has at a key is what a look-up finds
  pub got : (es : List (List ℕ × X)) (q : List ℕ) → fin.get (fin.from_entries {R = text_cmp} es) q ≡ lookup (is_at (text_cmp q)) es
  got es q = get-from_entries nat_list_cmp_total es q ∙ found_is es q

  -- entries that differ at one key
  pub one_put : (es fs : List (List ℕ × X)) (k : List ℕ) (v : X) → ((q : List ℕ) → lookup (is_at (text_cmp q)) fs ≡ cond (is_at (text_cmp k) q) (Some v) (lookup (is_at (text_cmp q)) es))
      → fin.from_entries {R = text_cmp} fs ≡ fin.insert (fin.from_entries es) k v
  one_put es fs k v h = same_map nat_list_cmp_total exact _ _ (λ q.
      got fs q ∙ h q ∙ ap (λ b. cond b (Some v) (lookup (is_at (text_cmp q)) es)) ((eq_by_cmp_equiv nat_list_cmp_total).symm k q)
      ∙ sym (get-insert nat_list_cmp_total (fin.from_entries es) k v q ∙ ap (cond (is_at (text_cmp q) k) (Some v)) (got es q)))

  -- entries that lack a key
  pub one_gone : (es fs : List (List ℕ × X)) (k : List ℕ) → ((q : List ℕ) → lookup (is_at (text_cmp q)) fs ≡ cond (is_at (text_cmp k) q) None (lookup (is_at (text_cmp q)) es))
      → fin.from_entries {R = text_cmp} fs ≡ fin.remove (fin.from_entries es) k
  one_gone es fs k h = same_map nat_list_cmp_total exact _ _ (λ q.
      got fs q ∙ h q ∙ ap (λ b. cond b None (lookup (is_at (text_cmp q)) es)) ((eq_by_cmp_equiv nat_list_cmp_total).symm k q)
      ∙ sym (get-remove nat_list_cmp_total (fin.from_entries es) k q ∙ ap (cond (is_at (text_cmp q) k) None) (got es q)))

  -- a key below the first is put in front
  in_front : (k : List ℕ) (v : X) (e : List ℕ × X) (es : List (List ℕ × X)) → text_cmp k e.0 ≡ Less → fin.put text_cmp k v (e ∷ es) ≡ (k, v) ∷ e ∷ es
  in_front k v e es less = rw less refl

  first_put : (k : List ℕ) (v : X) (es : List (List ℕ × X)) → IsStrictlySortedBy text_cmp (keys_of ((k, v) ∷ es)) → fin.put text_cmp k v es ≡ (k, v) ∷ es
  first_put k v [] s = refl
  first_put k v (e ∷ es) s = in_front k v e es (sorted_head text_cmp k (keys_of (e ∷ es)) s).0

  nil_of : (es : List (List ℕ × X)) → length es ≡ 0 → es ≡ []
  nil_of [] h = refl
  nil_of (e ∷ es) h = absurd (omega arith)

  pub none_listed : fin.entries (fin.from_entries {X = X} {R = text_cmp} []) ≡ []
  none_listed = nil_of (fin.entries (fin.empty {X = X} {R = text_cmp})) (sym (len-entries (fin.empty {X = X} {R = text_cmp})) ∙ len-empty text_cmp X)

  -- the entries of the finite map are those of the map, in order
  pub listed : (es : List (List ℕ × X)) → IsStrictlySortedBy text_cmp (keys_of es) → fin.entries (fin.from_entries {R = text_cmp} es) ≡ es
  listed [] s = none_listed
  listed (e ∷ es) s = entries-insert nat_list_cmp_total (fin.from_entries es) e.0 e.1
      ∙ ap (fin.put text_cmp e.0 e.1) (listed es (sorted_tail text_cmp e.0 (keys_of es) s))
      ∙ first_put e.0 e.1 es s

  -- a value that is written where it stands changes nothing
  set_same : (test : List ℕ → Bool) (es : List (List ℕ × X)) (w : X) → lookup test es ≡ Some w → set_value test es w ≡ es
  set_same test [] w h = refl
  set_same test (e ∷ es) w h = elim (test e.0) as (λ b. cond b (Some e.1) (lookup test es) ≡ Some w → cond b ((e.0, w) ∷ es) (e ∷ set_value test es w) ≡ e ∷ es) [
    | true ↦ λ h. ap (λ v. (e.0, v) ∷ es) (sym (same_Some e.1 w h))
    | false ↦ λ h. ap (λ r. e ∷ r) (set_same test es w h)
  ] h

  pub written_back : (es fs : List (List ℕ × X)) (test : List ℕ → Bool) (w : X) → fs ≡ set_value test es w → lookup test es ≡ Some w → fin.from_entries {R = text_cmp} fs ≡ fin.from_entries es
  written_back es fs test w put h = ap (λ r. fin.from_entries {R = text_cmp} r) (put ∙ set_same test es w h)
