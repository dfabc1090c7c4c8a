-- The pages that a map of the program holds.
use Rattle.std.proofs.Common.{◌≡◌, cond, ℕ, Some, List, [], ◌∷◌, ◌++◌, refl, sym, ap, ◌∙◌, append_assoc}
use Rattle.std.specs.declared.cmp.Ordering.TheVariants.{Less, Greater}
use Rattle.std.specs.Ordering.{nat_cmp, match_ordering, ordering_reverse}
use Rattle.std.specs.Cmp.{eq_by_cmp_equiv}
use Rattle.std.specs.Cmp.Lexicographic.{slice_cmp, nat_list_cmp_total}
use Rattle.std.specs.FinMap as fin
use Rattle.std.specs.FinMap.{find, slice_cmp-IsAntisymmetric, nat_cmp-IsAntisymmetric, same_map, get-insert, get-from_entries, IsAntisymmetric}
use Rattle.std.specs.Map.{lookup, keys_of}
use Rattle.std.specs.BTreeMap.{is_at, insert_entry}
use Rattle.std.specs.List.Sorted.{IsStrictlySortedBy}
use Rattle.std.proofs.lemmas.Map.Keys.{sorted_head, sorted_tail}

abbrev Entries : Type 0
Entries = List (List ℕ × List ℕ)

exact : IsAntisymmetric (slice_cmp nat_cmp)
exact = slice_cmp-IsAntisymmetric nat_cmp-IsAntisymmetric

found_is : (es : Entries) (q : List ℕ) → find (slice_cmp nat_cmp) q es ≡ lookup (is_at (slice_cmp nat_cmp q)) es
found_is [] q = refl
found_is (e ∷ es) q = ap (cond (is_at (slice_cmp nat_cmp q) e.0) (Some e.1)) (found_is es q)

-- what the finite map has at a path is what a look-up finds
pub got : (es : Entries) (q : List ℕ) → fin.get (fin.from_entries {R = slice_cmp nat_cmp} es) q ≡ lookup (is_at (slice_cmp nat_cmp q)) es
got es q = get-from_entries nat_list_cmp_total es q ∙ found_is es q

-- entries that differ at one path
pub one_put : (es fs : Entries) (k v : List ℕ)
    → ((q : List ℕ) → lookup (is_at (slice_cmp nat_cmp q)) fs ≡ cond (is_at (slice_cmp nat_cmp k) q) (Some v) (lookup (is_at (slice_cmp nat_cmp q)) es))
    → fin.from_entries {R = slice_cmp nat_cmp} fs ≡ fin.insert (fin.from_entries es) k v
one_put es fs k v h = same_map nat_list_cmp_total exact _ _ (λ q.
    got fs q ∙ h q ∙ ap (λ b. cond b (Some v) (lookup (is_at (slice_cmp nat_cmp q)) es)) ((eq_by_cmp_equiv nat_list_cmp_total).symm k q)
    ∙ sym (get-insert nat_list_cmp_total (fin.from_entries es) k v q ∙ ap (cond (is_at (slice_cmp nat_cmp q) k) (Some v)) (got es q)))

-- a path above another one
above : (k q : List ℕ) → slice_cmp nat_cmp k q ≡ Less → slice_cmp nat_cmp q k ≡ Greater
above k q less = nat_list_cmp_total.antisymm q k ∙ ap ordering_reverse less

-- the first of some paths in order lies below one that stands behind it
below : (k q : List ℕ) (es rest : Entries) (v : List ℕ) → IsStrictlySortedBy (slice_cmp nat_cmp) (k ∷ keys_of (es ++ (q, v) ∷ rest)) → slice_cmp nat_cmp k q ≡ Less
below k q [] rest v s = (sorted_head (slice_cmp nat_cmp) k (keys_of ((q, v) ∷ rest)) s).0
below k q (e ∷ es) rest v s =
    nat_list_cmp_total.trans k e.0 q (sorted_head (slice_cmp nat_cmp) k (keys_of (e ∷ es ++ (q, v) ∷ rest)) s).0
    (below e.0 q es rest v (sorted_tail (slice_cmp nat_cmp) k (keys_of (e ∷ es ++ (q, v) ∷ rest)) s))

-- an entry whose path lies above all others is put at the end
at_end : (es rest : Entries) (k v : List ℕ) → IsStrictlySortedBy (slice_cmp nat_cmp) (keys_of (es ++ (k, v) ∷ rest)) → insert_entry (slice_cmp nat_cmp) es k v ≡ es ++ (k, v) ∷ []
at_end [] rest k v s = refl
at_end (e ∷ es) rest k v s =
    ap (λ o. match_ordering o ((k, v) ∷ e ∷ es) ((e.0, v) ∷ es) (e ∷ insert_entry (slice_cmp nat_cmp) es k v)) (above e.0 k (below e.0 k es rest v s))
    ∙ ap (λ r. e ∷ r) (at_end es rest k v (sorted_tail (slice_cmp nat_cmp) e.0 (keys_of (es ++ (k, v) ∷ rest)) s))

-- an entry more is copied: `copied` and what is left are the whole
pub copied_more : (whole copied copied' left left' : Entries) (k v k' v' : List ℕ) → IsStrictlySortedBy (slice_cmp nat_cmp) (keys_of whole)
    → copied ++ left ≡ whole → left ≡ (k, v) ∷ left' → k' ≡ k → v' ≡ v → copied' ≡ insert_entry (slice_cmp nat_cmp) copied k' v' → copied' ++ left' ≡ whole
copied_more whole copied copied' left left' k v k' v' sorted is next key value put =
    let whole_is : copied ++ (k, v) ∷ left' ≡ whole = ap (λ l. copied ++ l) (sym next) ∙ is in
    let ordered : IsStrictlySortedBy (slice_cmp nat_cmp) (keys_of (copied ++ (k, v) ∷ left')) = rw whole_is sorted in
    ap (λ l. l ++ left') (put ∙ ap (λ a. insert_entry (slice_cmp nat_cmp) copied a v') key ∙ ap (λ b. insert_entry (slice_cmp nat_cmp) copied k b) value ∙ at_end copied left' k v ordered)
    ∙ append_assoc copied ((k, v) ∷ []) left' ∙ whole_is
