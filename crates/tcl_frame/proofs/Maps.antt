-- The map that a table in memory is seen as: what it has at a key, and what becomes of it when one key changes.
use Rattle.std.proofs.Common.{◌≡◌, ℕ, Bool, true, false, ◌&&◌, T, List, [], ◌∷◌, length, arith, refl, sym, ap, subst, ◌∙◌, cond, ⊎_elim}
use Rattle.std.specs.Prelude.{Vec, Option, Some, None}
use Rattle.std.specs.declared.alloc.Global.{Global}
use Rattle.std.specs.declared.cmp.Ordering.{Ordering}
use Rattle.std.specs.declared.cmp.Ordering.TheVariants.{Less}
use Rattle.std.specs.Ordering.{nat_cmp, is_eq, is_lt}
use Rattle.std.specs.List.{AllByRecursion}
use Rattle.std.specs.List.Sorted.{IsStrictlySortedBy}
use Rattle.std.specs.Cmp.{eq_by_cmp_equiv}
use Rattle.std.specs.Cmp.Lexicographic.{slice_cmp, nat_list_cmp_total, nat_list_eq_equiv, bytes_decides}
use Rattle.std.specs.FinMap as map
use Rattle.std.specs.FinMap.{is_sorted, get-from_entries, get-from_sorted, entries-from_sorted, len-entries, len-empty, get-insert, get-remove, same_map}
use Rattle.std.specs.FinMap.Entries.{below_all}
use Rattle.std.specs.Map.{keys_of, lookup, KeepsOthers, IsKeyTest, AreApart}
use Rattle.std.specs.Str.{bytes_eq}
use Rattle.std.proofs.lemmas.Bool.{cases_Bool, cond-true, cond-false}
use Rattle.std.proofs.lemmas.Map.Lookups.{exact_bytes}
use Rattle.std.proofs.lemmas.Map.Text.{is_eq-slice_cmp}
use Rattle.tcl_frame.specs.Entries.{by_bytes}

-- how a key with these bytes is sought in a table in memory
abbrev pub seeks : List ℕ → Vec ℕ Global → Bool
seeks q k = is_eq (slice_cmp nat_cmp q k.items)

-- when two keys in memory are the same
abbrev pub same_key : Vec ℕ Global → Vec ℕ Global → Bool
same_key a b = is_eq (slice_cmp nat_cmp a.items b.items)

apart : (k q s : List ℕ) → bytes_eq k q ≡ false → is_eq (slice_cmp nat_cmp k s) ≡ true → is_eq (slice_cmp nat_cmp q s) ≡ false
apart k q s n y =
    is_eq-slice_cmp q s ∙ nat_list_eq_equiv.symm q s ∙ sym (nat_list_eq_equiv.congr k s q (sym (is_eq-slice_cmp k s) ∙ y)) ∙ n

module _ {V : Type 0} where
  others : (test : Vec ℕ Global → Bool) (old new : List (Vec ℕ Global × V)) → KeepsOthers same_key test old new
      → (other : Vec ℕ Global → Bool) → IsKeyTest same_key other → AreApart test other → lookup other new ≡ lookup other old
  unfolding KeepsOthers
  others test old new h = h

  find_bytes : (es : List (Vec ℕ Global × V)) (q : List ℕ) → map.find (slice_cmp nat_cmp) q (by_bytes es) ≡ lookup (seeks q) es
  find_bytes [] q = refl
  find_bytes (e ∷ es) q = ap (cond (seeks q e.0) (Some e.1)) (find_bytes es q)

  -- what the map has at a key
  pub get_bytes : (es : List (Vec ℕ Global × V)) (q : List ℕ) → map.get (map.from_entries {R = slice_cmp nat_cmp} (by_bytes es)) q ≡ lookup (seeks q) es
  get_bytes es q = get-from_entries nat_list_cmp_total (by_bytes es) q ∙ find_bytes es q

  -- entries that differ at the key k alone, where the later ones have w
  one_changed : (k : List ℕ) (old new : List (Vec ℕ Global × V)) (w : Option V) → lookup (seeks k) new ≡ w → KeepsOthers same_key (seeks k) old new
      → (q : List ℕ) → lookup (seeks q) new ≡ cond (is_eq (slice_cmp nat_cmp q k)) w (lookup (seeks q) old)
  one_changed k old new w here keeps q =
      let turned = is_eq-slice_cmp q k ∙ nat_list_eq_equiv.symm q k in
      ⊎_elim
      (λ y. subst (λ l. lookup (seeks l) new ≡ w) ((bytes_decides k q).0 y) here ∙ sym (cond-true _ w (lookup (seeks q) old) (turned ∙ y)))
      (λ n. others (seeks k) old new keeps (seeks q) (λ x y. (eq_by_cmp_equiv nat_list_cmp_total).congr q x.items y.items) (λ x. apart k q x.items n)
      ∙ sym (cond-false _ w (lookup (seeks q) old) (turned ∙ n)))
      (cases_Bool (bytes_eq k q))

  -- a value at k alone is inserted
  pub inserted : (k : List ℕ) (v : V) (old new : List (Vec ℕ Global × V)) → lookup (seeks k) new ≡ Some v → KeepsOthers same_key (seeks k) old new
      → map.from_entries {R = slice_cmp nat_cmp} (by_bytes new) ≡ map.insert (map.from_entries (by_bytes old)) k v
  inserted k v old new here keeps = same_map nat_list_cmp_total exact_bytes _ _ (λ q.
      get_bytes new q ∙ one_changed k old new (Some v) here keeps q ∙ ap (cond (is_eq (slice_cmp nat_cmp q k)) (Some v)) (sym (get_bytes old q))
      ∙ sym (get-insert nat_list_cmp_total (map.from_entries (by_bytes old)) k v q))

  -- a value at k alone is taken away
  pub taken : (k : List ℕ) (old new : List (Vec ℕ Global × V)) → lookup (seeks k) new ≡ None → KeepsOthers same_key (seeks k) old new
      → map.from_entries {R = slice_cmp nat_cmp} (by_bytes new) ≡ map.remove (map.from_entries (by_bytes old)) k
  taken k old new here keeps = same_map nat_list_cmp_total exact_bytes _ _ (λ q.
      get_bytes new q ∙ one_changed k old new None here keeps q ∙ ap (cond (is_eq (slice_cmp nat_cmp q k)) None) (sym (get_bytes old q))
      ∙ sym (get-remove nat_list_cmp_total (map.from_entries (by_bytes old)) k q))

both : (a b : Bool) → T a → T b → T (a && b)
both true b p q = q
both false b p q = p

-- how a table in memory compares its keys
abbrev pub compared : Vec ℕ Global → Vec ℕ Global → Ordering
compared a b = slice_cmp nat_cmp a.items b.items

module _ {V : Type 0} where
  below_bytes : (k : Vec ℕ Global) (es : List (Vec ℕ Global × V)) → AllByRecursion (λ y. compared k y ≡ Less) (keys_of es) → T (below_all (slice_cmp nat_cmp) k.items (by_bytes es))
  below_bytes k [] h = tt
  below_bytes k (e ∷ es) h = both _ _ (subst (λ r. T (is_lt r)) (sym h.0) tt) (below_bytes k es h.1)

  sorted_bytes : (es : List (Vec ℕ Global × V)) → IsStrictlySortedBy compared (keys_of es) → T (is_sorted (slice_cmp nat_cmp) (by_bytes es))
  unfolding IsStrictlySortedBy
  sorted_bytes [] h = tt
  sorted_bytes (e ∷ es) h = both _ _ (below_bytes e.0 es h.0) (sorted_bytes es h.1)

  -- the entries in their order are those of the map
  pub entries_kept : (es : List (Vec ℕ Global × V)) → IsStrictlySortedBy compared (keys_of es) → map.entries (map.from_entries {R = slice_cmp nat_cmp} (by_bytes es)) ≡ by_bytes es
  entries_kept es h =
      let sorted = sorted_bytes es h in
      ap map.entries (same_map nat_list_cmp_total exact_bytes _ _ (λ q.
      get-from_entries nat_list_cmp_total (by_bytes es) q ∙ sym (get-from_sorted (slice_cmp nat_cmp) (by_bytes es) q sorted)))
      ∙ entries-from_sorted (slice_cmp nat_cmp) (by_bytes es) sorted

pub no_items : {A : Type 0} (xs : List A) → length xs ≡ 0 → xs ≡ []
no_items [] e = refl
no_items (x ∷ xs) e = absurd (omega arith)

-- no entries
pub entries_of_empty : (V : Type 0) → map.entries (map.empty {X = V} {R = slice_cmp nat_cmp}) ≡ []
entries_of_empty V = no_items _ (sym (len-entries map.empty) ∙ len-empty (slice_cmp nat_cmp) V)
