use Rattle.std.proofs.Common.{◌≡◌, ℕ, ◌+◌, ◌*◌, ◌<◌, ◌≤◌, List, length, get_or, take, true, false, refl, sym, ap, ◌∙◌, subst, arith, min}
use Rattle.std.specs.Prelude.{decimal, ◌==◌}
use Rattle.std.specs.List.{list_all}
use Rattle.std.proofs.lemmas.Bool.{lt-ltb}
use Rattle.std.proofs.lemmas.Bool.Decides.{nat_tests}
use Rattle.std.proofs.lemmas.List.{take_all, length-take}
use Rattle.std.proofs.lemmas.List.Folds.{list_all_more}
use Rattle.txt_core.specs.Digits.{digit_of, is_digit, value_of}
use Rattle.txt_core.proofs.Values.{value_of_more}
use Rattle.rehearse.specs.Numbers.{IsSmall}
use Rattle.rehearse.proofs.Numbers.{value_small, canonical, no_digits, too_many, extra_zero, other_byte}
use Rattle.rehearse.proofs.number.read_number.Goals as goal
use Rattle.rehearse.proofs.number.read_number.Goals.{then-is_empty-via-then-is_empty, then-is_empty-via-else-is_empty+then-digits-gt-MOST_DIGITS}
use Rattle.rehearse.proofs.number.read_number.Goals.{else-digits-eq48-via-then-digits-eq48+else-digits-gt1, else-digits-eq48-via-else-digits-eq48}

none : (n : ℕ) → true ≡ (n == 0) → n ≡ 0
none n h = grind (arith, nat_tests)

some : (n : ℕ) → false ≡ (n == 0) → 0 < n
some n h = grind (arith, nat_tests)

pub returns-then-is_empty : goal.returns-then-is_empty
returns-then-is_empty c x h =
    elim c.then-is_empty.branch [
      | then-is_empty-via-then-is_empty w ↦
          no_digits c.args.digits.now x (none (length c.args.digits.now) (sym w.if-is_empty.true ∙ c.is_empty.ensures)) h
      | then-is_empty-via-else-is_empty+then-digits-gt-MOST_DIGITS w ↦ too_many c.args.digits.now x (omega arith) h
    ]

pub returns-then-digits-gt1 : goal.returns-then-digits-gt1
returns-then-digits-gt1 c x h = extra_zero c.args.digits.now x c.if-digits-eq48.true (omega arith) h

pub returns-then-value-ge-DECIMAL : goal.returns-then-value-ge-DECIMAL
returns-then-value-ge-DECIMAL c x h =
    let out : 10 ≤ digit_of (get_or c.args.digits.now c.digits.byte-index 0) = ten_or_more c.digit-value.result (digit_of (get_or c.args.digits.now c.digits.byte-index 0)) c.digit-value.ensures c.if-value-ge-DECIMAL.true in
    other_byte c.args.digits.now c.digits.byte-index x c.digits-test.true out h
  where
    ten_or_more : (a b : ℕ) → a ≡ b → 10 ≤ a → 10 ≤ b
    ten_or_more a b is h = omega (arith, is, h)

small_so_far : (xs : List ℕ) (i n : ℕ) → length xs ≤ 12 → n ≡ value_of 10 (take i xs) → list_all (is_digit 10) (take i xs) ≡ true → n < 1000000000000
small_so_far xs i n short e h =
    let l : length (take i xs) ≡ min i (length xs) = length-take i xs in
    let v : value_of 10 (take i xs) < 1000000000000 = value_small (take i xs) h (omega (arith, l)) in
    omega (arith, e, v)

pub overflow_mul-number : goal.overflow_mul-number
overflow_mul-number c =
    let s : c.digits.number < 1000000000000 = small_so_far c.args.digits.now c.digits.byte-index c.digits.number (omega arith) c.digits.invariant.value c.digits.invariant.digits in
    omega arith

pub overflow_add-number : goal.overflow_add-number
overflow_add-number c =
    let s : c.digits.number < 1000000000000 = small_so_far c.args.digits.now c.digits.byte-index c.digits.number (omega arith) c.digits.invariant.value c.digits.invariant.digits in
    omega arith

-- a value below ten is a digit's
one_digit : (b value : ℕ) → value ≡ digit_of b → value < 10 → is_digit 10 b ≡ true
one_digit b value is small = lt-ltb (digit_of b) 10 (omega (arith, is, small))

pub digits-preserved : goal.digits-preserved
digits-preserved c =
    let xs : List ℕ = c.args.digits.now in
    let i : ℕ = c.digits.byte-index in
    let small : c.digit-value.result < 10 = omega arith in
    let same : c.from.result ≡ c.digit-value.result = omega arith in
    let one : is_digit 10 (get_or xs i 0) ≡ true = one_digit (get_or xs i 0) c.digit-value.result c.digit-value.ensures small in
    record {
      value = plus_one c.digits.number (value_of 10 (take i xs)) c.from.result (digit_of (get_or xs i 0)) c.digits.invariant.value (same ∙ c.digit-value.ensures) ∙ sym (value_of_more 10 xs i c.digits-test.true);
      digits = rw (list_all_more (is_digit 10) xs i 0 c.digits-test.true, c.digits.invariant.digits, one) refl;
    }
  where
    plus_one : (n m a b : ℕ) → n ≡ m → a ≡ b → n * 10 + a ≡ m * 10 + b
    plus_one n m a b same is = omega (arith, same, is)

pub returns : goal.returns
returns c =
    let xs : List ℕ = c.args.digits.now in
    let past : length xs ≤ c.digits.byte-index = omega arith in
    let value : c.digits.number ≡ value_of 10 xs = c.digits.invariant.value ∙ ap (value_of 10) (take_all c.digits.byte-index xs past) in
    let all : list_all (is_digit 10) xs ≡ true = rw (take_all c.digits.byte-index xs past) at c.digits.invariant.digits in
    let there : 0 < length xs = some (length xs) (sym c.if-is_empty.false ∙ c.is_empty.ensures) in
    let zero : get_or xs 0 0 ≡ 48 → length xs ≡ 1 =
    λ z. elim c.else-digits-eq48.branch [ else-digits-eq48-via-then-digits-eq48+else-digits-gt1 w ↦ omega (arith, there) | else-digits-eq48-via-else-digits-eq48 w ↦ absurd (omega (arith, z)) ] in
    subst (λ (n : ℕ). IsSmall n × (xs ≡ decimal n)) (sym value) (canonical xs all there zero (omega arith))
