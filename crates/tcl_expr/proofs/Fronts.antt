-- A run can't go on past its front: how much of it a value can begin with doesn't depend on what stands behind that, and a value is its own front.
use Rattle.std.proofs.Common.{◌≡◌, ℕ, suc, ◌+◌, ◌*◌, ◌^◌, ◌<◌, ◌≤◌, List, [], ◌∷◌, ◌++◌, length, Bool, true, false, Option, None, Some, refl, ap, sym, ◌∙◌, subst, arith, add_assoc, ◌&&◌}
use Rattle.std.proofs.Math.Nat.{add-mul, mul_assoc, mul_comm, pow-suc, one-le-pow, le-mul_of_pos_right}
use Rattle.std.proofs.lemmas.Bool.{lt-ltb, ltb-true}
use Rattle.std.proofs.lemmas.Bool.Decides.{nat_tests}
use Rattle.std.proofs.lemmas.List.{reverse-reverse, reverse-append, length-append}
use Rattle.std.proofs.lemmas.List.Folds.{list_all-append}
use Rattle.std.proofs.lemmas.Slice.Eq.{bytes_eq-Decides}
use Rattle.std.specs.Prelude.{not, reverse, max, codes, bytes_eq, ◌==◌, ◌||◌, nat_le, nat_lt, if◌then◌else◌}
use Rattle.std.specs.List.{list_all}
use Rattle.std.specs.Option.{is_some}
use Rattle.txt_core.specs.Digits.{digit_of, is_digit, value_of}
use Rattle.txt_core.specs.Number.{is_space, trimmed_front, trimmed, natural, behind_zero, magnitude, positive, signed, number}
use Rattle.txt_core.specs.Truth.{truth_of_word}
use Rattle.tcl_expr.specs.Runs.{is_word, names_value, next_value, one_more, digits_front, shared, word_front, zero_front, value_front}

nat_local : (t : Bool) (x y z w n : ℕ) → (x < n → z ≡ x) → (y < n → w ≡ y) → (if t then x else y) < n → (if t then z else w) ≡ (if t then x else y)
nat_local true x y z w n h k l = h l
nat_local false x y z w n h k l = k l

more_local : (base : ℕ) (g a b : List ℕ) (q : Option ℕ) → ((m : ℕ) → digits_front base m (g ++ a) < length g → digits_front base m (g ++ b) ≡ digits_front base m (g ++ a))
    → one_more q (λ m. digits_front base m (g ++ a)) < suc (length g) → one_more q (λ m. digits_front base m (g ++ b)) ≡ one_more q (λ m. digits_front base m (g ++ a))
more_local base g a b None go h = refl
more_local base g a b (Some m) go h = ap suc (go m (omega (arith, h)))

digits_local : (base n : ℕ) (g a b : List ℕ) → digits_front base n (g ++ a) < length g → digits_front base n (g ++ b) ≡ digits_front base n (g ++ a)
digits_local base n [] a b h = absurd (omega (arith, h))
digits_local base n (c ∷ g) a b h = more_local base g a b (next_value base n c) (λ m k. digits_local base m g a b k) h

shared_local : (w g a b : List ℕ) → shared w (g ++ a) < length g → shared w (g ++ b) ≡ shared w (g ++ a)
shared_local [] g a b h = refl
shared_local (c ∷ w) [] a b h = absurd (omega (arith, h))
shared_local (c ∷ w) (d ∷ g) a b h = nat_local (c == d) (suc (shared w (g ++ a))) 0 (suc (shared w (g ++ b))) 0 (suc (length g)) (λ k. ap suc (shared_local w g a b (omega (arith, k)))) (λ k. refl) h

max_local : (x y z w n : ℕ) → (x < n → z ≡ x) → (y < n → w ≡ y) → max x y < n → max z w ≡ max x y
max_local x y z w n h k l =
    let e = h (omega (arith, l)) in
    let f = k (omega (arith, l)) in
    rw (e, f) refl

word_local : (g a b : List ℕ) → word_front (g ++ a) < length g → word_front (g ++ b) ≡ word_front (g ++ a)
word_local g a b h =
    let n = length g in
    let s : List ℕ → ℕ = λ w. shared w (g ++ a) in
    let t : List ℕ → ℕ = λ w. shared w (g ++ b) in
    let two = max_local (s (codes "true")) (s (codes "yes")) (t (codes "true")) (t (codes "yes")) n (shared_local (codes "true") g a b) (shared_local (codes "yes") g a b) in
    let three = max_local (max (s (codes "true")) (s (codes "yes"))) (s (codes "on")) (max (t (codes "true")) (t (codes "yes"))) (t (codes "on")) n two (shared_local (codes "on") g a b) in
    let four = max_local (max (max (s (codes "true")) (s (codes "yes"))) (s (codes "on"))) (s (codes "false")) (max (max (t (codes "true")) (t (codes "yes"))) (t (codes "on"))) (t (codes "false")) n three (shared_local (codes "false") g a b) in
    let five = max_local (max (max (max (s (codes "true")) (s (codes "yes"))) (s (codes "on"))) (s (codes "false"))) (s (codes "no")) (max (max (max (t (codes "true")) (t (codes "yes"))) (t (codes "on"))) (t (codes "false"))) (t (codes "no")) n four (shared_local (codes "no") g a b) in
    max_local (max (max (max (max (s (codes "true")) (s (codes "yes"))) (s (codes "on"))) (s (codes "false"))) (s (codes "no"))) (s (codes "off")) (max (max (max (max (t (codes "true")) (t (codes "yes"))) (t (codes "on"))) (t (codes "false"))) (t (codes "no"))) (t (codes "off")) n five (shared_local (codes "off") g a b) h

zero_local : (g a b : List ℕ) → zero_front (g ++ a) < length g → zero_front (g ++ b) ≡ zero_front (g ++ a)
zero_local [] a b h = absurd (omega (arith, h))
zero_local (c ∷ g) a b h =
    nat_local ((c == 120) || (c == 88)) (suc (digits_front 16 0 (g ++ a))) (digits_front 8 0 (c ∷ g ++ a)) (suc (digits_front 16 0 (g ++ b))) (digits_front 8 0 (c ∷ g ++ b)) (length (c ∷ g))
    (λ k. ap suc (digits_local 16 0 g a b (omega (arith, k)))) (λ k. digits_local 8 0 (c ∷ g) a b k) h

-- The front of a run doesn't depend on what stands behind it.
pub front_local : (g a b : List ℕ) → value_front (g ++ a) < length g → value_front (g ++ b) ≡ value_front (g ++ a)
front_local [] a b h = absurd (omega (arith, h))
front_local (c ∷ g) a b h =
    nat_local (c == 48) (suc (zero_front (g ++ a))) (if nat_le 49 c && nat_le c 57 then digits_front 10 0 (c ∷ g ++ a) else word_front (c ∷ g ++ a))
    (suc (zero_front (g ++ b))) (if nat_le 49 c && nat_le c 57 then digits_front 10 0 (c ∷ g ++ b) else word_front (c ∷ g ++ b)) (length (c ∷ g))
    (λ k. ap suc (zero_local g a b (omega (arith, k))))
    (nat_local (nat_le 49 c && nat_le c 57) (digits_front 10 0 (c ∷ g ++ a)) (word_front (c ∷ g ++ a)) (digits_front 10 0 (c ∷ g ++ b)) (word_front (c ∷ g ++ b)) (length (c ∷ g))
    (λ k. digits_local 10 0 (c ∷ g) a b k) (λ k. word_local (c ∷ g) a b k)) h

pub both : (a b : Bool) → (a && b) ≡ true → (a ≡ true) × (b ≡ true)
both true b h = (refl, h)
both false b h = absurd (cc)

pub regroup : (n base p d w : ℕ) → n * (p * base) + (d * p + w) ≡ (n * base + d) * p + w
regroup n base p d w = rw (mul_comm p base) (rw (add-mul, mul_assoc n base p, add_assoc) refl)

next_some : (base n b : ℕ) → is_digit base b ≡ true → n * base + digit_of b < 2 ^ 63 → next_value base n b ≡ Some (n * base + digit_of b)
next_some base n b d h = rw (d, lt-ltb (n * base + digit_of b) (2 ^ 63) h) refl

digits_whole : (base n : ℕ) (ds : List ℕ) → 0 < base → list_all (is_digit base) ds ≡ true → n * base ^ length ds + value_of base ds < 2 ^ 63 → digits_front base n ds ≡ length ds
digits_whole base n [] pos all h = refl
digits_whole base n (b ∷ t) pos all h =
    let p = both (is_digit base b) (list_all (is_digit base) t) all in
    let m = n * base + digit_of b in
    let q = base ^ length t in
    let one : 0 < q = one-le-pow (length t) base pos in
    let le : m ≤ m * q = le-mul_of_pos_right m one in
    let s : n * (q * base) + (digit_of b * q + value_of base t) < 2 ^ 63 = rw pow-suc at h in
    let e = regroup n base q (digit_of b) (value_of base t) in
    let f : m * q + value_of base t < 2 ^ 63 = subst (λ z. z < 2 ^ 63) e s in
    let small : m < 2 ^ 63 = omega (arith, le, f) in
    rw (next_some base n b p.0 small) (ap suc (digits_whole base m t pos p.1 f))

-- a number below the limit
abbrev pub Small : Option ℕ → Type 0
Small None = ⊥
Small (Some k) = k < 2 ^ 63

small_if : (t : Bool) (k : ℕ) → Small (if t then Some k else None) → (t ≡ true) × (k < 2 ^ 63)
small_if true k h = (refl, h)
small_if false k h = absurd h

natural_front : (base : ℕ) (t : List ℕ) → 0 < base → Small (natural base t) → digits_front base 0 t ≡ length t
natural_front base [] pos h = refl
natural_front base (b ∷ t) pos h =
    let s = small_if (list_all (is_digit base) (b ∷ t)) (value_of base (b ∷ t)) h in
    let z : 0 * base ^ length (b ∷ t) + value_of base (b ∷ t) < 2 ^ 63 = omega (arith, s.1) in
    digits_whole base 0 (b ∷ t) pos s.0 z

small_choice : (t : Bool) (x y : Option ℕ) (n m k : ℕ) → (Small x → n ≡ k) → (Small y → m ≡ k) → Small (if t then x else y) → (if t then n else m) ≡ k
small_choice true x y n m k h g s = h s
small_choice false x y n m k h g s = g s

zero_whole : (t : List ℕ) → Small (behind_zero t) → zero_front t ≡ length t
zero_whole [] h = refl
zero_whole (b ∷ t) h =
    small_choice ((b == 120) || (b == 88)) (natural 16 t) (natural 8 (b ∷ t)) (suc (digits_front 16 0 t)) (digits_front 8 0 (b ∷ t)) (length (b ∷ t))
    (λ s. ap suc (natural_front 16 t (omega arith) s)) (λ s. natural_front 8 (b ∷ t) (omega arith) s) h

first_digit : (b : ℕ) (t : List ℕ) → Small (natural 10 (b ∷ t)) → (b == 48) ≡ false → (nat_le 49 b && nat_le b 57) ≡ true
first_digit b t h ne =
    let s = small_if (list_all (is_digit 10) (b ∷ t)) (value_of 10 (b ∷ t)) h in
    let d = (both (is_digit 10 b) (list_all (is_digit 10) t) s.0).0 in
    digit_first b d ne
  where
    digit_first : (b : ℕ) → is_digit 10 b ≡ true → (b == 48) ≡ false → (nat_le 49 b && nat_le b 57) ≡ true
    digit_first b d ne = grind (arith, nat_tests)

by_zero : (t : Bool) (b : ℕ) (r : List ℕ) → (b == 48) ≡ t → Small (if t then behind_zero r else natural 10 (b ∷ r))
    → (if t then suc (zero_front r) else if nat_le 49 b && nat_le b 57 then digits_front 10 0 (b ∷ r) else word_front (b ∷ r)) ≡ length (b ∷ r)
by_zero true b r e h = ap suc (zero_whole r h)
by_zero false b r e h = rw (first_digit b r h e) (natural_front 10 (b ∷ r) (omega arith) h)

magnitude_whole : (t : List ℕ) → Small (magnitude t) → value_front t ≡ length t
magnitude_whole [] h = refl
magnitude_whole (b ∷ t) h = by_zero (b == 48) b t refl h

below_small : (q : Option ℕ) → is_some (positive q) ≡ true → Small q
below_small None h = absurd (cc)
below_small (Some k) h = by_test (nat_lt k (2 ^ 63)) k refl h
  where
    by_test : (t : Bool) (k : ℕ) → nat_lt k (2 ^ 63) ≡ t → is_some (positive (Some k)) ≡ true → k < 2 ^ 63
    by_test true k e h = ltb-true k (2 ^ 63) e
    by_test false k e h = absurd (let w : is_some (positive (Some k)) ≡ false = rw e refl in cc)

pub plain : ℕ → Bool
plain b = not (is_space b)

word_plain : (b : ℕ) → is_word b ≡ true → plain b ≡ true
unfolding plain
word_plain b h = grind (arith, nat_tests)

pub all_plain : (t : List ℕ) → list_all is_word t ≡ true → list_all plain t ≡ true
all_plain [] h = refl
all_plain (b ∷ t) h =
    let p = both (is_word b) (list_all is_word t) h in
    rw (word_plain b p.0, all_plain t p.1) refl

front_plain : (t : List ℕ) → list_all plain t ≡ true → trimmed_front t ≡ t
unfolding plain
front_plain [] h = refl
front_plain (c ∷ t) h = kept (is_space c) (trimmed_front t) (c ∷ t) (both (not (is_space c)) (list_all plain t) h).0
  where
    kept : (v : Bool) (x y : List ℕ) → not v ≡ true → (if v then x else y) ≡ y
    kept true x y e = absurd (cc)
    kept false x y e = refl

all_reverse : (p : ℕ → Bool) (t : List ℕ) → list_all p t ≡ true → list_all p (reverse t) ≡ true
all_reverse p [] h = refl
all_reverse p (c ∷ t) h =
    let q : (p c ≡ true) × (list_all p t ≡ true) = both (p c) (list_all p t) h in
    let e : reverse (c ∷ t) ≡ reverse t ++ c ∷ [] = reverse-append (c ∷ []) t in
    rw (e, list_all-append p (reverse t) (c ∷ []), all_reverse p t q.1, q.0) refl

pub trimmed_plain : (t : List ℕ) → list_all plain t ≡ true → trimmed t ≡ t
trimmed_plain t h = rw (front_plain t h, front_plain (reverse t) (all_reverse plain t h)) (reverse-reverse t)

pub no_sign : (b : ℕ) → is_word b ≡ true → ((b == 45) ≡ false) × ((b == 43) ≡ false)
no_sign b h = (grind (arith, nat_tests), grind (arith, nat_tests))

signed_whole : (t : List ℕ) → list_all is_word t ≡ true → is_some (signed t) ≡ true → value_front t ≡ length t
signed_whole [] all h = refl
signed_whole (b ∷ t) all h =
    let s = no_sign b (both (is_word b) (list_all is_word t) all).0 in
    magnitude_whole (b ∷ t) (below_small (magnitude (b ∷ t)) (rw (s.0, s.1) at h))

number_whole : (t : List ℕ) → list_all is_word t ≡ true → is_some (number t) ≡ true → value_front t ≡ length t
unfolding number
number_whole t all h = signed_whole t all (subst (λ z. is_some (signed z) ≡ true) (trimmed_plain t (all_plain t all)) h)

is_text : (t w : List ℕ) (b : Bool) → bytes_eq t w ≡ b → b ≡ true → t ≡ w
is_text t w b e h = (bytes_eq-Decides t w).0 (e ∙ h)

truth_whole : (t : List ℕ) → is_some (truth_of_word t) ≡ true → value_front t ≡ length t
truth_whole t h =
    one_of (bytes_eq t (codes "true")) (bytes_eq t (codes "yes")) (bytes_eq t (codes "on")) (bytes_eq t (codes "false")) (bytes_eq t (codes "no")) (bytes_eq t (codes "off")) refl refl refl refl refl refl h
  where
    named : (w : List ℕ) → value_front w ≡ length w → bytes_eq t w ≡ true → value_front t ≡ length t
    named w e h = subst (λ z. value_front z ≡ length z) (sym (is_text t w true h refl)) e

    one_of : (a b c d e f : Bool) → bytes_eq t (codes "true") ≡ a → bytes_eq t (codes "yes") ≡ b → bytes_eq t (codes "on") ≡ c → bytes_eq t (codes "false") ≡ d → bytes_eq t (codes "no") ≡ e → bytes_eq t (codes "off") ≡ f
        → is_some (if a || b || c then Some true else if d || e || f then Some false else None) ≡ true → value_front t ≡ length t
    one_of true b c d e f p q r s u v h = named (codes "true") refl p
    one_of false true c d e f p q r s u v h = named (codes "yes") refl q
    one_of false false true d e f p q r s u v h = named (codes "on") refl r
    one_of false false false true e f p q r s u v h = named (codes "false") refl s
    one_of false false false false true f p q r s u v h = named (codes "no") refl u
    one_of false false false false false true p q r s u v h = named (codes "off") refl v
    one_of false false false false false false p q r s u v h = absurd (cc)

-- A run that is a value is its own front.
pub value_whole : (t : List ℕ) → list_all is_word t ≡ true → names_value t ≡ true → value_front t ≡ length t
value_whole t all h = by_number (is_some (number t)) (is_some (truth_of_word t)) refl refl h
  where
    by_number : (a b : Bool) → is_some (number t) ≡ a → is_some (truth_of_word t) ≡ b → (a || b) ≡ true → value_front t ≡ length t
    by_number true b p q h = number_whole t all p
    by_number false true p q h = truth_whole t q
    by_number false false p q h = absurd (cc)

-- No value begins with the bytes of a run up to and with the one behind its front.
pub never_value : (g a b : List ℕ) → value_front (g ++ a) < length g → list_all is_word (g ++ b) ≡ true → names_value (g ++ b) ≡ true → ⊥
never_value g a b h all v =
    let e = front_local g a b h in
    let w = value_whole (g ++ b) all v in
    let l : length (g ++ b) ≡ length g + length b = length-append g b in
    omega (arith, e, w, h, l)
