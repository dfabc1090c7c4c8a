-- The order of entries, and ids of their own.
use Rattle.std.proofs.Common.{◌≡◌, ◌≢◌, ◌↔◌, ℕ, ◌+◌, ◌<◌, ◌≤◌, Bool, true, false, cond, not, nat_lt, leb, MatchBool, Option, Some, None, List, [], ◌∷◌, refl, sym, ap, ◌∙◌, subst, ⊎_elim, arith}
use Rattle.std.specs.List.{Contains, filter, All, AllByRecursion, slice_get}
use Rattle.std.specs.Ordering.{nat_cmp, is_gt}
use Rattle.std.specs.declared.cmp.Ordering.TheVariants.{Less, Equal, Greater}
use Rattle.std.specs.declared.ops.Bound.TheVariants.{Excluded, Unbounded}
use Rattle.std.specs.Cmp.{IsTotalOrder, nat_cmp_total}
use Rattle.std.specs.Map.{keys_of}
use Rattle.std.specs.BTreeMap.Range.{range_contains, IsLeBy}
use Rattle.std.proofs.lemmas.Bool.{cases_order, leb-true, leb-false}
use Rattle.std.proofs.lemmas.Bool.Decides.{nat_tests}
use Rattle.std.proofs.lemmas.Cmp.{then_total, on_total, tied_itself}
use Rattle.std.proofs.lemmas.List.Elements.{All-contains}
use Rattle.std.proofs.lemmas.Map.Keys.{sorted_head, sorted_tail}
use Rattle.std.proofs.lemmas.Map.Lookups.{CmpEqualImpliesEq, exact_pairs, exact_unsigned}
use Rattle.sched_core.specs.Entries.{Entry, due_of, id_of, key_cmp, AreInOrder}
use Rattle.sched_core.specs.Due.{is_due}
use Rattle.sched_core.specs.Allowed.{HaveOwnIds}
use Rattle.sched_core.proofs.Members.{nothing, here, there, first_or, in_filter, same_filter}

pub key_total : IsTotalOrder key_cmp
key_total = then_total (on_total (λ (t : ℕ × ℕ). t.0) nat_cmp_total) (on_total (λ (t : ℕ × ℕ). t.1) nat_cmp_total)

pub key_exact : CmpEqualImpliesEq key_cmp
key_exact = exact_pairs nat_cmp nat_cmp exact_unsigned exact_unsigned

all_keys : (k : ℕ × ℕ) (es : List Entry) → AllByRecursion (λ y. key_cmp k y ≡ Less) (keys_of es) → (f : Entry) → Contains es f → key_cmp k f.0 ≡ Less
all_keys k [] a f (n, lt, is) = absurd (omega arith)
all_keys k (x ∷ xs) a f i = ⊎_elim (λ (is : x ≡ f). subst (λ (y : Entry). key_cmp k y.0 ≡ Less) is a.0) (λ (i : Contains xs f). all_keys k xs a.1 f i) (first_or x xs f i)

-- no key is below itself
not_below : (k : ℕ × ℕ) → key_cmp k k ≡ Less → ⊥
not_below k is = let e : key_cmp k k ≡ Equal = tied_itself key_total k in cc

-- the first entry's key is below that of each later one
pub after_first : (e : Entry) (es : List Entry) → AreInOrder (e ∷ es) → (f : Entry) → Contains es f → key_cmp e.0 f.0 ≡ Less
after_first e es s f i = all_keys e.0 es (sorted_head key_cmp e.0 (keys_of es) s) f i

-- lists in order with the same entries are equal
pub same_entries : (es fs : List Entry) → AreInOrder es → AreInOrder fs → ((e : Entry) → Contains es e ↔ Contains fs e) → es ≡ fs
same_entries [] [] s t h = refl
same_entries [] (f ∷ fs) s t h = absurd (nothing f ((h f).1 (here f fs)))
same_entries (e ∷ es) [] s t h = absurd (nothing e ((h e).0 (here e es)))
same_entries (e ∷ es) (f ∷ fs) s t h =
    let is : e ≡ f = ⊎_elim (λ (same : f ≡ e). sym same)
    (λ (i : Contains fs e). ⊎_elim (λ (same : e ≡ f). same)
    (λ (j : Contains es f). absurd (not_below e.0 (key_total.trans e.0 f.0 e.0 (after_first e es s f j) (after_first f fs t e i)))) (first_or e es f ((h f).1 (here f fs)))) (first_or f fs e ((h e).0 (here e es))) in
    let apart : (x : Entry) → Contains es x → e ≡ x → ⊥ = λ x i same. not_below e.0 (subst (λ (y : Entry). key_cmp e.0 y.0 ≡ Less) (sym same) (after_first e es s x i)) in
    let apart_other : (x : Entry) → Contains fs x → f ≡ x → ⊥ = λ x i same. not_below f.0 (subst (λ (y : Entry). key_cmp f.0 y.0 ≡ Less) (sym same) (after_first f fs t x i)) in
    let rest : es ≡ fs = same_entries es fs (sorted_tail key_cmp e.0 (keys_of es) s) (sorted_tail key_cmp f.0 (keys_of fs) t)
    (λ x. (
      λ i. ⊎_elim (λ (same : f ≡ x). absurd (apart x i (is ∙ same))) (λ (j : Contains fs x). j) (first_or f fs x ((h x).0 (there e es x i))),
      λ i. ⊎_elim (λ (same : e ≡ x). absurd (apart_other x i (sym is ∙ same))) (λ (j : Contains es x). j) (first_or e es x ((h x).1 (there f fs x i))),
    )) in
    λ i. is i ∷ rest i

-- each entry's id is another than that of each entry behind it
abbrev pub Apart : List Entry → Type 0
Apart [] = Unit {0}
Apart (e ∷ es) = ((f : Entry) → Contains es f → id_of e ≢ id_of f) × Apart es

pub apart : (es : List Entry) → AreInOrder es → HaveOwnIds es → Apart es
apart [] s own = tt
apart (e ∷ es) s own = (
  λ f i same.
      let is : e ≡ f = own e f (here e es) (there e es f i) same in
      not_below e.0 (subst (λ (y : Entry). key_cmp e.0 y.0 ≡ Less) (sym is) (all_keys e.0 es (sorted_head key_cmp e.0 (keys_of es) s) f i)),
  apart es (sorted_tail key_cmp e.0 (keys_of es) s) (λ a b i j. own a b (there e es a i) (there e es b j)),
)

pub apart_filter : (p : Entry → Bool) (es : List Entry) → Apart es → Apart (filter p es)
apart_filter p [] a = tt
apart_filter p (e ∷ es) a =
    let go : (b : Bool) → Apart (cond b (e ∷ filter p es) (filter p es)) = λ b. elim b as (λ b. Apart (cond b (e ∷ filter p es) (filter p es))) [
      | true ↦ (λ f i. a.0 f (in_filter p es f i), apart_filter p es a.1)
      | false ↦ apart_filter p es a.1
    ] in go (p e)

-- the keys below (now + 1, 0) are those of entries due at now
pub in_range : (now due id : ℕ) → range_contains key_cmp Unbounded (Excluded (now + 1, 0)) (due, id) ≡ not (nat_lt now due)
in_range now due id = ⊎_elim
    (λ (same : now + 1 ≡ due). ⊎_elim (λ (a : 0 ≡ id). grind (arith, nat_tests)) (λ b. ⊎_elim (λ (c : 0 < id). grind (arith, nat_tests)) (λ (c : id < 0). absurd (omega arith)) b) (cases_order 0 id))
    (λ other. ⊎_elim (λ (below : now + 1 < due). grind (arith, nat_tests)) (λ (above : due < now + 1). grind (arith, nat_tests)) other) (cases_order (now + 1) due)

pub due_range : (now : ℕ) (es : List Entry) → filter (λ (e : Entry). range_contains key_cmp Unbounded (Excluded (now + 1, 0)) e.0) es ≡ filter (is_due now) es
due_range now es = same_filter (λ (e : Entry). range_contains key_cmp Unbounded (Excluded (now + 1, 0)) e.0) (is_due now) es (λ e. in_range now e.0.0 e.0.1)

-- the key of an entry is among the keys
pub key_of : (es : List Entry) (e : Entry) → Contains es e → Contains (keys_of es) e.0
key_of [] e i = absurd (nothing e i)
key_of (x ∷ xs) e i = ⊎_elim
    (λ (is : x ≡ e). subst (λ (y : Entry). Contains (keys_of (x ∷ xs)) y.0) is (here x.0 (keys_of xs)))
    (λ (j : Contains xs e). there x.0 (keys_of xs) e.0 (key_of xs e j)) (first_or x xs e i)

-- a key that is among the keys is an entry's
pub of_key : (es : List Entry) (k : ℕ × ℕ) → Contains (keys_of es) k → (e : Entry) × Contains es e × (e.0 ≡ k)
of_key [] k i = absurd (nothing k i)
of_key (x ∷ xs) k i = ⊎_elim
    (λ (is : x.0 ≡ k). (x, here x xs, is))
    (λ (j : Contains (keys_of xs) k). let r = of_key xs k j in (r.0, there x xs r.0 r.1, r.2)) (first_or x.0 (keys_of xs) k i)

le_due : (a b : ℕ × ℕ) → is_gt (key_cmp a b) ≡ false → a.0 ≤ b.0
le_due a b h = ⊎_elim (λ (same : a.0 ≡ b.0). omega arith)
    (λ other. ⊎_elim (λ (below : a.0 < b.0). omega arith)
    (λ (above : b.0 < a.0). let e : key_cmp a b ≡ Greater = grind (arith, nat_tests) in let x : Path Bool true false = ap is_gt (sym e) ∙ h in cc) other) (cases_order a.0 b.0)

-- whether the first entry of a list in order is due
pub first_due : (now : ℕ) (es : List Entry) (p : Entry) → slice_get es 0 ≡ Some p → All (IsLeBy key_cmp p.0) (keys_of es)
    → MatchBool (leb p.0.0 now) ((e : Entry) × (rest : List Entry) × (es ≡ e ∷ rest) × (due_of e ≤ now)) ((e : Entry) → Contains es e → now < due_of e)
first_due now [] p at all = let x : Path (Option Entry) None (Some p) = at in cc
first_due now (x ∷ xs) p at all =
    let is : Path (Option Entry) (Some x) (Some p) = at in
    let same : x ≡ p = cc in
    elim (leb p.0.0 now) as (λ b. leb p.0.0 now ≡ b → MatchBool b ((e : Entry) × (rest : List Entry) × (x ∷ xs ≡ e ∷ rest) × (due_of e ≤ now)) ((e : Entry) → Contains (x ∷ xs) e → now < due_of e)) [
      | true ↦ λ t. (x, xs, refl, subst (λ (y : Entry). due_of y ≤ now) (sym same) (leb-true p.0.0 now t))
      | false ↦ λ t e i.
          let above = leb-false p.0.0 now t in
          let le = le_due p.0 e.0 (All-contains (λ (k : ℕ × ℕ). is_gt (key_cmp p.0 k) ≡ false) (keys_of (x ∷ xs)) e.0 all (key_of (x ∷ xs) e i)) in omega arith
    ] refl
