-- The best registration, as a relation over the list.
use Rattle.std.proofs.Common.{◌≡◌, ℕ, ◌<◌, ◌≤◌, Bool, true, false, List, [], ◌∷◌, ◌++◌, Option, Some, None, refl, sym, ap, ◌∙◌, subst, arith}
use Rattle.std.specs.Prelude.{nat_le, if◌then◌else◌}
use Rattle.std.specs.List.{AllByRecursion}
use Rattle.std.proofs.lemmas.Bool.Decides.{nat_tests}
use Rattle.cmd_table.specs.declared.definition.Def.{Def}
use Rattle.url_tables.specs.Serving.{Match, registration, better, best}
use Rattle.url_tables.specs.Laws.{HasAtMost, HasLess, IsBest}

module _ (method : List ℕ) (path : List (List ℕ)) where
  abbrev None_matches : Def → Type 0
  None_matches def = registration method path def ≡ None

  none_of : (a b : Option Match) → better a b ≡ None → (a ≡ None) × (b ≡ None)
  none_of a None h = (h, refl)
  none_of None (Some b) h = absurd (cc)
  none_of (Some a) (Some b) h = by_test (nat_le a.0 b.0) h
    where
      by_test : (t : Bool) → (if t then Some b else Some a) ≡ None → (Some a ≡ None) × (Some b ≡ None)
      by_test true k = absurd (cc)
      by_test false k = absurd (cc)

  pub none_matches : (defs : List Def) → best method path defs ≡ None → AllByRecursion None_matches defs
  none_matches [] h = tt
  none_matches (def ∷ defs) h = let n = none_of (registration method path def) (best method path defs) h in (n.0, none_matches defs n.1)

  less_none : (defs : List Def) (r : ℕ) → AllByRecursion None_matches defs → AllByRecursion (HasLess method path r) defs
  less_none [] r h = tt
  less_none (def ∷ defs) r h = (λ found e. absurd (clash (registration method path def) found h.0 e), less_none defs r h.1)
    where
      clash : (o : Option Match) (found : Match) → o ≡ None → o ≡ Some found → ⊥
      clash o found a b = let x : Path (Option Match) None (Some found) = sym a ∙ b in cc

  less_most : (defs : List Def) (r s : ℕ) → r < s → AllByRecursion (HasAtMost method path r) defs → AllByRecursion (HasLess method path s) defs
  less_most [] r s lt h = tt
  less_most (def ∷ defs) r s lt h = (λ found e. let k : found.0 ≤ r = h.0 found e in omega arith, less_most defs r s lt h.1)

  less_less : (defs : List Def) (r s : ℕ) → r < s → AllByRecursion (HasLess method path r) defs → AllByRecursion (HasLess method path s) defs
  less_less [] r s lt h = tt
  less_less (def ∷ defs) r s lt h = (λ found e. let k : found.0 < r = h.0 found e in omega arith, less_less defs r s lt h.1)

  all_append : (P : Def → Type 0) (defs others : List Def) → AllByRecursion P defs → AllByRecursion P others → AllByRecursion P (defs ++ others)
  all_append P [] others h k = k
  all_append P (def ∷ defs) others h k = (h.0, all_append P defs others h.1 k)

  same_match : (o : Option Match) (a b : Match) → o ≡ Some a → o ≡ Some b → a ≡ b
  same_match o a b h k = let x : Path (Option Match) (Some a) (Some b) = sym h ∙ k in cc

  less_best : (defs : List Def) (b : Match) (s : ℕ) → b.0 < s → IsBest method path defs b → AllByRecursion (HasLess method path s) defs
  less_best defs b s lt i =
      subst (AllByRecursion (HasLess method path s)) (sym i.3)
      (all_append (HasLess method path s) i.0 (i.1 ∷ i.2) (less_most i.0 b.0 s lt i.5)
      ((λ found e. let k : b ≡ found = same_match (registration method path i.1) b found i.4 e in let n : b.0 ≡ found.0 = ap (λ (x : Match). x.0) k in omega arith), less_less i.2 b.0 s lt i.6))

  further : (def : Def) (defs : List Def) (m : Match) → HasAtMost method path m.0 def → IsBest method path defs m → IsBest method path (def ∷ defs) m
  further def defs m most i = (def ∷ i.0, i.1, i.2, ap (λ (ds : List Def). def ∷ ds) i.3, i.4, (most, i.5), i.6)

  first_is : (def : Def) (defs : List Def) (m : Match) → registration method path def ≡ Some m → AllByRecursion (HasLess method path m.0) defs → IsBest method path (def ∷ defs) m
  first_is def defs m e less = ([], def, defs, refl, e, tt, less)

  by_test : (def : Def) (defs : List Def) (a b m : Match) (t : Bool) → nat_le a.0 b.0 ≡ t → registration method path def ≡ Some a → IsBest method path defs b → (if t then Some b else Some a) ≡ Some m
      → IsBest method path (def ∷ defs) m
  by_test def defs a b m true le e i h =
      let is : b ≡ m = same_match (Some b) b m refl h in
      subst (λ (x : Match). IsBest method path (def ∷ defs) x) is
      (further def defs b (λ found k. let same : a ≡ found = same_match (registration method path def) a found e k in let n : a.0 ≡ found.0 = ap (λ (x : Match). x.0) same in grind (arith, nat_tests)) i)
  by_test def defs a b m false gt e i h =
      let is : a ≡ m = same_match (Some a) a m refl h in
      subst (λ (x : Match). IsBest method path (def ∷ defs) x) is (first_is def defs a e (less_best defs b a.0 (grind (arith, nat_tests)) i))

  by_parts : (def : Def) (defs : List Def) (m : Match) (a b : Option Match) → registration method path def ≡ a → best method path defs ≡ b
      → ((n : Match) → best method path defs ≡ Some n → IsBest method path defs n) → better a b ≡ Some m → IsBest method path (def ∷ defs) m
  by_parts def defs m a None e f ih h = first_is def defs m (e ∙ h) (less_none defs m.0 (none_matches defs f))
  by_parts def defs m None (Some b) e f ih h =
      further def defs m (λ found k. let x : Path (Option Match) None (Some found) = sym e ∙ k in absurd (cc)) (ih m (f ∙ h))
  by_parts def defs m (Some a) (Some b) e f ih h = by_test def defs a b m (nat_le a.0 b.0) refl e (ih b f) h

  pub best_is_best : (defs : List Def) (found : Match) → best method path defs ≡ Some found → IsBest method path defs found
  best_is_best [] found h = absurd (cc)
  best_is_best (def ∷ defs) found h = by_parts def defs found (registration method path def) (best method path defs) refl refl (best_is_best defs) h
