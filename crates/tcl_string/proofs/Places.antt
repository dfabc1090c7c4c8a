-- The first and the last place at which a text stands in another.
use Rattle.std.proofs.Common.{◌≡◌, ◌∙◌, ap, sym, refl, ℕ, zero, suc, ◌+◌, ◌-◌, ◌<◌, ◌≤◌, List, [], ◌∷◌, ◌++◌, Bool, true, false, Option, None, Some, length, take, drop, arith, length-take, length-drop}
use Rattle.std.proofs.lemmas.List.{reverse-append}
use Rattle.std.specs.Prelude.{reverse, find}
use Rattle.std.specs.List.{range_with_len}
use Rattle.std.proofs.lemmas.Slice.Eq.{bytes_eq-Decides}
use Rattle.memchr.specs.Find.{OccursAt, FindsNeedle, FindsLastNeedle}
use Rattle.memchr.proofs.lemmas.MatchLemmas.{OccursAt-part, OccursAt-from_part}
use Rattle.natives.specs.Strings.{stands_at, first_place, last_place}

-- ---- the first number of a range that passes a test

find_none : (test : ℕ → Bool) (a n : ℕ) → ((k : ℕ) → a ≤ k → k < a + n → test k ≡ false) → find test (range_with_len a n) ≡ None
find_none test a zero none = refl
find_none test a (suc n) none = rw (none a (omega arith) (omega arith)) (find_none test (a + 1) n (λ k low high. none k (omega arith) (omega arith)))

find_some : (test : ℕ → Bool) (a n d k : ℕ) → k ≡ a + d → d < n → test k ≡ true → ((j : ℕ) → a ≤ j → j < k → test j ≡ false) → find test (range_with_len a n) ≡ Some k
find_some test a zero d k e lt passes none = absurd (omega arith)
find_some test a (suc n) zero k e lt passes none = let same : a ≡ k = omega arith in rw (same, passes) refl
find_some test a (suc n) (suc d) k e lt passes none =
    rw (none a (omega arith) (omega arith)) (find_some test (a + 1) n d k (omega arith) (omega arith) passes (λ j low high. none j (omega arith) high))

-- ---- the last one

range_more : (a n : ℕ) → range_with_len a (suc n) ≡ range_with_len a n ++ (a + n) ∷ []
range_more a zero = let e : a + 0 ≡ a = omega arith in rw e refl
range_more a (suc n) =
    let e : a + 1 + n ≡ a + suc n = omega arith in
    ap (λ (xs : List ℕ). a ∷ xs) (range_more (a + 1) n ∙ ap (λ (k : ℕ). range_with_len (a + 1) n ++ k ∷ []) e)

reverse_more : (n : ℕ) → reverse (range_with_len 0 (suc n)) ≡ n ∷ reverse (range_with_len 0 n)
reverse_more n =
    let e : 0 + n ≡ n = omega arith in
    ap reverse (range_more 0 n) ∙ reverse-append (range_with_len 0 n) ((0 + n) ∷ []) ∙ ap (λ (k : ℕ). k ∷ reverse (range_with_len 0 n)) e

last_none : (test : ℕ → Bool) (n : ℕ) → ((k : ℕ) → k < n → test k ≡ false) → find test (reverse (range_with_len 0 n)) ≡ None
last_none test zero none = refl
last_none test (suc n) none = ap (find test) (reverse_more n) ∙ rw (none n (omega arith)) (last_none test n (λ k lt. none k (omega arith)))

last_some : (test : ℕ → Bool) (d k n : ℕ) → n ≡ k + d → test k ≡ true → ((j : ℕ) → k < j → j < suc n → test j ≡ false) → find test (reverse (range_with_len 0 (suc n))) ≡ Some k
last_some test zero k n e passes none = let same : n ≡ k = omega arith in ap (find test) (reverse_more n) ∙ rw (same, passes) refl
last_some test (suc d) k zero e passes none = absurd (omega arith)
last_some test (suc d) k (suc m) e passes none =
    ap (find test) (reverse_more (suc m)) ∙ rw (none (suc m) (omega arith) (omega arith)) (last_some test d k m (omega arith) passes (λ j low high. none j low (omega arith)))

-- ---- where a text stands

stands : (a b : List ℕ) (k : ℕ) → OccursAt b a k → stands_at a b k ≡ true
stands a b k h = (bytes_eq-Decides _ a).1 (OccursAt-part b a k h)

not_true : (b : Bool) → (b ≡ true → ⊥) → b ≡ false
not_true true h = absurd (h refl)
not_true false h = refl

stands_not : (a b : List ℕ) (k : ℕ) → 0 < length a → (OccursAt b a k → ⊥) → stands_at a b k ≡ false
stands_not a b k some never =
    not_true (stands_at a b k) (λ passes.
    let part : take (length a) (drop k b) ≡ a = (bytes_eq-Decides _ a).0 passes in
    let fits : k + length a ≤ length b = omega (arith, ap length part, length-take (length a) (drop k b), length-drop k b) in
    never (OccursAt-from_part b a k fits part))

pub first_found : (a b : List ℕ) (r : Option ℕ) → 0 < length a → FindsNeedle b a 0 r → r ≡ first_place a b
first_found [] b r some h = absurd (omega arith)
first_found (c ∷ t) b None some h =
    sym (find_none (stands_at (c ∷ t) b) 0 (length b) (λ k low high. stands_not (c ∷ t) b k some (h k low (omega arith))))
first_found (c ∷ t) b (Some k) some h =
    let fits = h.1.fits in
    sym (find_some (stands_at (c ∷ t) b) 0 (length b) k k (omega arith) (omega arith) (stands (c ∷ t) b k h.1) (λ j low high. stands_not (c ∷ t) b j some (h.0.before j low high)))

pub last_found : (a b : List ℕ) (r : Option ℕ) → 0 < length a → FindsLastNeedle b a r → r ≡ last_place a b
last_found [] b r some h = absurd (omega arith)
last_found (c ∷ t) b None some h =
    sym (last_none (stands_at (c ∷ t) b) (length b) (λ k lt. stands_not (c ∷ t) b k some (h k (omega arith) (omega arith))))
last_found (c ∷ t) [] (Some k) some h = let fits = h.1.fits in absurd (omega arith)
last_found (c ∷ t) (x ∷ u) (Some k) some h =
    let fits = h.1.fits in
    sym (last_some (stands_at (c ∷ t) (x ∷ u)) (length u - k) k (length u) (omega arith) (stands (c ∷ t) (x ∷ u) k h.1) (λ j low high. stands_not (c ∷ t) (x ∷ u) j some (h.0.after j (omega arith) (omega arith))))
