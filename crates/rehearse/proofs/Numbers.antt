-- Numbers in decimal.
use Rattle.std.proofs.Common.{◌≡◌, ℕ, zero, suc, ◌-◌, ◌^◌, ◌<◌, ◌≤◌, lit<, subst, List, length, get_or, true, false, refl, sym, ap, ◌∙◌, arith}
use Rattle.std.specs.Prelude.{decimal}
use Rattle.std.specs.Int.{IsInRange}
use Rattle.std.specs.List.{list_all}
use Rattle.std.specs.Str.Parse.{AllDigits}
use Rattle.std.proofs.lemmas.Bool.{ltb-true}
use Rattle.std.proofs.lemmas.Bool.Decides.{nat_tests}
use Rattle.std.proofs.lemmas.Fmt.{digits_decimal, decimal-digits_value, decimal_nonempty, decimal_digit, first_decimal, length-decimal-le, decimal_injective}
use Rattle.std.proofs.lemmas.Str.Parse.{IsNumeralModel, IsDigitsTest, WeighsDigits, numerals_by_weight, digits_value_short, digit_at}
use Rattle.txt_core.specs.Digits.{digit_of, is_digit, value_of}
use Rattle.rehearse.specs.Numbers.{IsSmall}
use Rattle.rehearse.specs.Reading.{is_other}
use Rattle.rehearse.proofs.Cutting.{both, all_other}

digit_in_range : (c : ℕ) → is_digit 10 c ≡ true → IsInRange 48 57 c
digit_in_range c h = (grind (arith, nat_tests), grind (arith, nat_tests))

in_range_digit : (c : ℕ) → IsInRange 48 57 c → is_digit 10 c ≡ true
in_range_digit c h = grind (arith, nat_tests)

in_range_value : (c : ℕ) → IsInRange 48 57 c → digit_of c ≡ c - 48
in_range_value c h = grind (arith, nat_tests)

tells : IsDigitsTest (λ t. list_all (is_digit 10) t ≡ true)
tells = record {
  empty = refl;
  parts = λ c t h. let p : (is_digit 10 c ≡ true) × (list_all (is_digit 10) t ≡ true) = both (is_digit 10 c) (list_all (is_digit 10) t) h in (digit_in_range c p.0, p.1);
  more = λ c t h k. rw (in_range_digit c h, k) refl;
}

weighs : WeighsDigits (value_of 10)
weighs = record { empty = refl; more = λ c t h. rw (in_range_value c h) refl }

own : IsNumeralModel (λ t. list_all (is_digit 10) t ≡ true) (value_of 10)
own = numerals_by_weight (λ t. list_all (is_digit 10) t ≡ true) tells (value_of 10) weighs

pub small_fits : (n : ℕ) → IsSmall n → n < 2 ^ 64
small_fits n h = omega arith

-- a byte that is no digit stands in no number
pub decimal_other : (c n : ℕ) → is_digit 10 c ≡ false → n < 2 ^ 64 → list_all (is_other c) (decimal n) ≡ true
decimal_other c n away h = all_other (is_digit 10) c (decimal n) away (digits_decimal own n h)

-- twelve digits write less than 1,000,000,000,000
pub value_small : (ds : List ℕ) → list_all (is_digit 10) ds ≡ true → length ds ≤ 12 → value_of 10 ds < 1000000000000
value_small ds h short = digits_value_short own ds 12 h short

-- digits without an extra zero are the number's
pub canonical : (ds : List ℕ) → list_all (is_digit 10) ds ≡ true → 0 < length ds → (get_or ds 0 0 ≡ 48 → length ds ≡ 1) → length ds ≤ 12
    → IsSmall (value_of 10 ds) × (ds ≡ decimal (value_of 10 ds))
canonical ds h some alone short =
    let small : value_of 10 ds < 1000000000000 = value_small ds h short in
    let fits_here : value_of 10 ds < 2 ^ 64 = omega arith in
    (small, sym (decimal-digits_value own ds h some alone fits_here))

-- numbers that are written so are the same
pub decimal_same : (m n : ℕ) → m < 2 ^ 64 → n < 2 ^ 64 → decimal m ≡ decimal n → m ≡ n
decimal_same m n h k e = decimal_injective m n h k e

-- ---- what no small number is written as

pub no_digits : (ds : List ℕ) (n : ℕ) → length ds ≡ 0 → IsSmall n × (ds ≡ decimal n) → ⊥
no_digits ds n e h =
    let some : 0 < length (decimal n) = decimal_nonempty n (small_fits n h.0) in
    let same : length ds ≡ length (decimal n) = ap length h.1 in
    omega (arith, some, same, e)

pub too_many : (ds : List ℕ) (n : ℕ) → 12 < length ds → IsSmall n × (ds ≡ decimal n) → ⊥
too_many ds n many h =
    let short : length (decimal n) ≤ 12 = length-decimal-le 12 n (lit< tt) h.0 (small_fits n h.0) in
    let same : length ds ≡ length (decimal n) = ap length h.1 in
    omega (arith, short, same, many)

zero_alone : (n : ℕ) → IsSmall n → get_or (decimal n) 0 0 ≡ 48 → length (decimal n) ≡ 1
zero_alone zero h e = ap length (decimal_digit 0 (lit< tt))
zero_alone (suc n) h e =
    let first : 48 < get_or (decimal (suc n)) 0 0 = first_decimal (suc n) (omega arith) (small_fits (suc n) h) in
    absurd (omega (arith, first, e))

pub extra_zero : (ds : List ℕ) (n : ℕ) → get_or ds 0 0 ≡ 48 → 1 < length ds → IsSmall n × (ds ≡ decimal n) → ⊥
extra_zero ds n e more h =
    let one : length (decimal n) ≡ 1 = zero_alone n h.0 (ap (λ (t : List ℕ). get_or t 0 0) (sym h.1) ∙ e) in
    let same : length ds ≡ length (decimal n) = ap length h.1 in
    omega (arith, one, same, more)

pub other_byte : (ds : List ℕ) (i n : ℕ) → i < length ds → 10 ≤ digit_of (get_or ds i 0) → IsSmall n × (ds ≡ decimal n) → ⊥
other_byte ds i n within out h =
    let all : AllDigits 10 (decimal n) = own.to (decimal n) (digits_decimal own n (small_fits n h.0)) in
    let there : i < length (decimal n) = subst (λ (t : List ℕ). i < length t) h.1 within in
    let range : IsInRange 48 57 (get_or (decimal n) i 0) = digit_at (decimal n) i all there in
    let small : digit_of (get_or (decimal n) i 0) < 10 = ltb-true (digit_of (get_or (decimal n) i 0)) 10 (in_range_digit (get_or (decimal n) i 0) range) in
    below_ten (digit_of (get_or ds i 0)) (digit_of (get_or (decimal n) i 0)) (ap (λ (t : List ℕ). digit_of (get_or t i 0)) h.1) out small
  where
    below_ten : (a b : ℕ) → a ≡ b → 10 ≤ a → b < 10 → ⊥
    below_ten a b same low high = omega (arith, same, low, high)

-- a length that is written so is the one that was read, which may be too large
pub too_large : (ds : List ℕ) (m n most : ℕ) → IsSmall most → IsSmall m × (ds ≡ decimal m) → most < m → (n ≤ most) × (ds ≡ decimal n) → ⊥
too_large ds m n most low here large h =
    let same : m ≡ n = decimal_same m n (small_fits m here.0) (omega (arith, low, h.0)) (sym here.1 ∙ h.1) in
    omega (arith, same, h.0, large)
